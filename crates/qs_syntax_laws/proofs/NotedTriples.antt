-- Triples note the variables that stand in them.
use Rattle.std.proofs.Common.{List, [], ◌∷◌, ◌++◌, map, sym, subst}
use Rattle.std.specs.List.{AllByRecursion, flat_map}
use Rattle.qs_syntax_tree.specs.declared.triples.GraphNode.{GraphNode, fold-GraphNode, map-GraphNode, roll-GraphNode, fold-roll-GraphNode, out-GraphNode}
use Rattle.qs_syntax_tree.specs.declared.triples.Property.{Property, fold-Property, map-Property, roll-Property, fold-roll-Property, ind-Property}
use Rattle.qs_syntax_tree.specs.declared.triples.GraphNode.TheOpen.{GraphNode-F, Property-F}
use Rattle.qs_syntax_tree.specs.declared.triples.TriplesSameSubject.{TriplesSameSubject}
use Rattle.qs_syntax_ast.specs.declared.pattern.Verb.{Verb}
use Rattle.qs_syntax_ast.specs.declared.pattern.Triple.{Triple}
use Rattle.qs_syntax_ast.specs.declared.term.TermPattern.{TermPattern}
use Rattle.qs_syntax_ast.specs.declared.term.TermPattern.TheVariants.{Blank}
use Rattle.qs_syntax_resolve.specs.Leaves.{term_of, anonymous}
use Rattle.qs_syntax_resolve.specs.Triples.{OfSubject, OfObject, triple, verb_of, property_level, node_level, property_of, properties, subject_level, same_subject, triples_after}
use Rattle.qs_syntax_scope.specs.Names.{Name}
use Rattle.qs_syntax_scope.specs.Variables.{term_variables, verb_variables, triple_variables}
use Rattle.qs_syntax_laws.proofs.NotedSteps.{Among, through, both, left, right, placing, Notes, ends, from_fewer, of_fewer, beside_too, goes_on, reads, one_more, turns}
use Rattle.qs_syntax_laws.proofs.NotedLeaves.{anonymous_notes, term_notes}
use Rattle.qs_syntax_laws.proofs.NotedPaths.{verb_notes}

-- of the triples that are found
abbrev pub found_in : List Triple → List Name
found_in found = flat_map triple_variables found

-- of a subject and what is found
abbrev under : TermPattern → List Triple → List Name
under subject found = term_variables subject ++ found_in found

-- of a subject, a verb and what is found
abbrev between : TermPattern → Verb → List Triple → List Name
between subject v found = (term_variables subject ++ verb_variables v) ++ found_in found

-- with one more triple
with_triple : (subject : TermPattern) (v : Verb) (object : TermPattern) (found : List Triple) → Among (between subject v (found ++ triple subject v object ∷ [])) (between subject v found ++ term_variables object)
with_triple subject v object found =
    let parts : Among (triple_variables (triple subject v object)) (between subject v found ++ term_variables object) = search placing in
    both (search placing) (through (one_more triple_variables found (triple subject v object)) (both (search placing) parts))

abbrev IsObject : OfObject → Type 0
IsObject f = (subject : TermPattern) (v : Verb) (found : List Triple) → Notes (between subject v found) (λ more. between subject v more) (f subject v found)

abbrev IsSubject : OfSubject → Type 0
IsSubject f = (subject : TermPattern) (found : List Triple) → Notes (under subject found) (λ more. under subject more) (f subject found)

-- ---- all nodes and properties

abbrev of_node : GraphNode → OfObject
of_node = fold-GraphNode OfObject OfSubject node_level property_level

abbrev of_property : Property → OfSubject
of_property = fold-Property OfObject OfSubject node_level property_level

abbrev KnownNode : Type 0
KnownNode = (n : GraphNode) × IsObject (of_node n)

abbrev KnownProperty : Type 0
KnownProperty = (p : Property) × IsSubject (of_property p)

abbrev inner_node : GraphNode-F KnownNode KnownProperty → GraphNode-F GraphNode Property
inner_node y = map-GraphNode KnownNode KnownProperty GraphNode Property (λ e. e.0) (λ e. e.0) y

abbrev inner_property : Property-F KnownNode KnownProperty → Property-F GraphNode Property
inner_property y = map-Property KnownNode KnownProperty GraphNode Property (λ e. e.0) (λ e. e.0) y

each_object : (subject : TermPattern) (v : Verb) (es : List KnownNode)
    → AllByRecursion (λ (o : OfObject). (found : List Triple) → Notes (between subject v found) (λ more. between subject v more) (o subject v found)) (map of_node (map (λ e. e.0) es))
each_object subject v [] = tt
each_object subject v (e ∷ es) = (e.1 subject v, each_object subject v es)

each_property : (subject : TermPattern) (es : List KnownProperty)
    → AllByRecursion (λ (p : OfSubject). (found : List Triple) → Notes (under subject found) (λ more. under subject more) (p subject found)) (map of_property (map (λ e. e.0) es))
each_property subject [] = tt
each_property subject (e ∷ es) = (e.1 subject, each_property subject es)

node_notes : (y : GraphNode-F KnownNode KnownProperty) → IsObject (node_level (map-GraphNode GraphNode Property OfObject OfSubject of_node of_property (inner_node y)))
node_notes (GraphNode-F.Term t) = λ subject v found.
    reads (between subject v found) (term_of t) _ (term_notes t) (λ o. ends (found ++ triple subject v o ∷ []) (with_triple subject v o found))
node_notes (GraphNode-F.BlankNodePropertyList es) = λ subject v found.
    reads (between subject v found) anonymous _ anonymous_notes (λ b.
    from_fewer (with_triple subject v (Blank b) found)
    (beside_too (term_variables subject ++ verb_variables v)
    (turns found_in (λ more p. p (Blank b) more) (found ++ triple subject v (Blank b) ∷ []) (map of_property (map (λ e. e.0) es)) (each_property (Blank b) es))))

property_notes : (y : Property-F KnownNode KnownProperty) → IsSubject (property_level (map-Property GraphNode Property OfObject OfSubject of_node of_property (inner_property y)))
property_notes y = λ subject found.
    reads (under subject found) (verb_of y.verb) _ (verb_notes y.verb) (λ v.
    from_fewer (search placing)
    (of_fewer (λ more. search placing)
    (turns (between subject v) (λ more o. o subject v more) found (map of_node (map (λ e. e.0) y.objects)) (each_object subject v y.objects))))

rolled_node_notes : (y : GraphNode-F KnownNode KnownProperty) → IsObject (of_node (roll-GraphNode (inner_node y)))
rolled_node_notes y = subst IsObject (sym (fold-roll-GraphNode OfObject OfSubject node_level property_level (inner_node y))) (node_notes y)

rolled_property_notes : (y : Property-F KnownNode KnownProperty) → IsSubject (of_property (roll-Property (inner_property y)))
rolled_property_notes y = subst IsSubject (sym (fold-roll-Property OfObject OfSubject node_level property_level (inner_property y))) (property_notes y)

of_property_notes : (p : Property) → IsSubject (property_of p)
unfolding property_of
of_property_notes =
    ind-Property (λ n. IsObject (of_node n)) (λ p. IsSubject (of_property p)) (λ x y is. subst (λ z. IsObject (of_node (roll-GraphNode z))) is (rolled_node_notes y))
    (λ x y is. subst (λ z. IsSubject (of_property (roll-Property z))) is (rolled_property_notes y))

-- ---- subjects

listed : (subject : TermPattern) (ps : List Property) → AllByRecursion (λ (p : OfSubject). (found : List Triple) → Notes (under subject found) (under subject) (p subject found)) (map property_of ps)
listed subject [] = tt
listed subject (p ∷ ps) = (of_property_notes p subject, listed subject ps)

properties_note : (subject : TermPattern) (found : List Triple) (ps : List Property) → Notes (under subject found) found_in (properties subject found ps)
properties_note subject found ps =
    of_fewer (λ more. right (term_variables subject) (found_in more)) (turns (under subject) (λ more p. p subject more) found (map property_of ps) (listed subject ps))

subject_notes : (found : List Triple) (ps : List Property) (n : GraphNode-F GraphNode Property) → Notes (found_in found) found_in (subject_level found ps n)
subject_notes found ps (GraphNode-F.Term t) =
    reads (found_in found) (term_of t) _ (term_notes t) (λ s.
    from_fewer (search placing) (properties_note s found ps))
subject_notes found ps (GraphNode-F.BlankNodePropertyList own) =
    reads (found_in found) anonymous _ anonymous_notes (λ b.
    from_fewer (left (found_in found) []) (goes_on _ _ (properties_note (Blank b) found own) (λ more. properties_note (Blank b) more ps)))

same_subject_notes : (found : List Triple) (t : TriplesSameSubject) → Notes (found_in found) found_in (same_subject found t)
unfolding same_subject
same_subject_notes found t = subject_notes found t.properties (out-GraphNode t.subject)

each_subject : (ts : List TriplesSameSubject) → AllByRecursion (λ (t : TriplesSameSubject). (found : List Triple) → Notes (found_in found) found_in (same_subject found t)) ts
each_subject [] = tt
each_subject (t ∷ ts) = (λ found. same_subject_notes found t, each_subject ts)

pub triples_note : (found : List Triple) (ts : List TriplesSameSubject) → Notes (found_in found) found_in (triples_after found ts)
triples_note found ts = turns found_in same_subject found ts (each_subject ts)
