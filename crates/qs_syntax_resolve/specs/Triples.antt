-- Triples with their names resolved (SPARQL 1.1 Query, 4.2): property lists and object lists are
-- written out, subject by subject.
use Rattle.std.specs.Prelude.{List, [], ◌∷◌, ◌++◌, map}
use Rattle.qs_syntax_tree.specs.declared.path.Verb.{Verb as WrittenVerb}
use Rattle.qs_syntax_tree.specs.declared.path.Verb.TheVariants as written
use Rattle.qs_syntax_tree.specs.declared.triples.GraphNode.{GraphNode, out-GraphNode}
use Rattle.qs_syntax_tree.specs.declared.triples.Property.{Property, fold-Property}
use Rattle.qs_syntax_tree.specs.declared.triples.GraphNode.TheOpen.{GraphNode-F, Property-F}
use Rattle.qs_syntax_tree.specs.declared.triples.TriplesSameSubject.{TriplesSameSubject}
use Rattle.qs_syntax_ast.specs.declared.path.Path.{Path}
use Rattle.qs_syntax_ast.specs.declared.path.Path.TheVariants as path
use Rattle.qs_syntax_ast.specs.declared.pattern.Verb.{Verb}
use Rattle.qs_syntax_ast.specs.declared.pattern.Verb.TheVariants as verb
use Rattle.qs_syntax_ast.specs.declared.pattern.Triple.{Triple}
use Rattle.qs_syntax_ast.specs.declared.term.TermPattern.{TermPattern}
use Rattle.qs_syntax_ast.specs.declared.term.TermPattern.TheVariants.{Blank}
use Rattle.qs_syntax_resolve.specs.Leaves.{variable, term_of, anonymous}
use Rattle.qs_syntax_resolve.specs.Path.{path_of}
use Rattle.qs_syntax_resolve.specs.Resolving.{Resolving, ◌>>=◌, ◌<$>◌, pure, in_turn}

-- a path of one IRI is that IRI
abbrev pub simplified : Path → Verb
simplified (path.Iri i) = verb.Iri i
simplified p = verb.Path p

abbrev pub verb_of : WrittenVerb → Resolving Verb
verb_of (written.Var v) = verb.Variable <$> variable v
verb_of (written.Path p) = simplified <$> path_of p

-- the triples of a subject, after those that are found already
abbrev pub OfSubject : Type 0
OfSubject = TermPattern → List Triple → Resolving (List Triple)

-- the triples of an object of a subject and a verb
abbrev pub OfObject : Type 0
OfObject = TermPattern → Verb → List Triple → Resolving (List Triple)

abbrev pub triple : TermPattern → Verb → TermPattern → Triple
triple s v o = record { subject = s; verb = v; object = o }

abbrev pub property_level : Property-F OfObject OfSubject → OfSubject
property_level p = λ subject found.
    verb_of p.verb >>= (λ v. in_turn (λ more o. o subject v more) found p.objects)

-- `[ .. ]` is a fresh blank node: its triple stands before those of its own properties
abbrev pub node_level : GraphNode-F OfObject OfSubject → OfObject
node_level (GraphNode-F.Term t) =
    λ subject v found. term_of t >>= (λ o. pure (found ++ triple subject v o ∷ []))
node_level (GraphNode-F.BlankNodePropertyList ps) =
    λ subject v found. anonymous >>= (λ b.
    in_turn (λ more p. p (Blank b) more) (found ++ triple subject v (Blank b) ∷ []) ps)

unfoldable pub property_of : Property → OfSubject
property_of = fold-Property OfObject OfSubject node_level property_level

abbrev pub properties : TermPattern → List Triple → List Property → Resolving (List Triple)
properties subject found ps = in_turn (λ more p. p subject more) found (map property_of ps)

abbrev pub subject_level : List Triple → List Property → GraphNode-F GraphNode Property
    → Resolving (List Triple)
subject_level found ps (GraphNode-F.Term t) = term_of t >>= (λ s. properties s found ps)
subject_level found ps (GraphNode-F.BlankNodePropertyList own) =
    anonymous >>= (λ b. properties (Blank b) found own >>= (λ more. properties (Blank b) more ps))

unfoldable pub same_subject : List Triple → TriplesSameSubject → Resolving (List Triple)
same_subject found t = subject_level found t.properties (out-GraphNode t.subject)

-- the triples of a block, after those that are found already
abbrev pub triples_after : List Triple → List TriplesSameSubject → Resolving (List Triple)
triples_after found ts = in_turn same_subject found ts
