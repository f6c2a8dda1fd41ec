-- The groups that trees are resolved to: no row of a VALUES has a blank node, since none can be written there.
use Rattle.std.proofs.Common.{◌≡◌, Bool, true, List, [], ◌∷◌, map, Option, Some, refl, sym, subst, ◌∙◌}
use Rattle.std.specs.List.{AllByRecursion}
use Rattle.qs_terms.specs.declared.term.Term.{Term}
use Rattle.qs_terms.specs.declared.term.Term.TheVariants as term
use Rattle.qs_syntax_tree.specs.declared.pattern.DataValue.{DataValue}
use Rattle.qs_syntax_tree.specs.declared.pattern.DataValue.TheVariants as written
use Rattle.qs_syntax_tree.specs.declared.pattern.InlineData.{InlineData as WrittenData}
use Rattle.qs_syntax_tree.specs.declared.pattern.Group.{Group as WrittenGroup, fold-Group, map-Group, roll-Group, fold-roll-Group, ind-Group}
use Rattle.qs_syntax_tree.specs.declared.pattern.Element.{Element, fold-Element, map-Element, roll-Element, fold-roll-Element}
use Rattle.qs_syntax_tree.specs.declared.pattern.GraphPattern.{GraphPattern as WrittenPattern, fold-GraphPattern, map-GraphPattern, roll-GraphPattern, fold-roll-GraphPattern}
use Rattle.qs_syntax_tree.specs.declared.pattern.GraphPattern.TheOpen as tree
use Rattle.qs_syntax_ast.specs.declared.expression.Expression.{Expression}
use Rattle.qs_syntax_ast.specs.declared.pattern.Group as group
use Rattle.qs_syntax_ast.specs.declared.pattern.Group.{Group}
use Rattle.qs_syntax_ast.specs.declared.pattern.GraphPattern as pattern
use Rattle.qs_syntax_ast.specs.declared.pattern.GraphPattern.{GraphPattern}
use Rattle.qs_syntax_ast.specs.declared.pattern.GraphPattern.TheOpen as shape
use Rattle.qs_syntax_ast.specs.declared.pattern.GraphPattern.TheVariants as made
use Rattle.qs_syntax_ast.specs.declared.pattern.GraphPattern.TheVariants.{rolls-Triples, rolls-Union, rolls-Optional, rolls-Minus, rolls-Graph, rolls-Bind, rolls-Values}
use Rattle.qs_syntax_ast.specs.declared.pattern.InlineData.{InlineData}
use Rattle.qs_syntax_ast.specs.declared.pattern.Triple.{Triple}
use Rattle.qs_syntax_ast.specs.declared.term.VarOrIri.{VarOrIri}
use Rattle.qs_syntax_ast.specs.declared.term.Variable.{Variable}
use Rattle.qs_syntax_resolve.specs.declared.open_group.OpenGroup.{OpenGroup}
use Rattle.qs_syntax_resolve.specs.Data.{value_of, row_of, inline_data}
use Rattle.qs_syntax_resolve.specs.inner.Data.{rows_of, variables_of}
use Rattle.qs_syntax_resolve.specs.Expression.{expression_of}
use Rattle.qs_syntax_resolve.specs.Leaves.{iri, literal, variable, var_or_iri}
use Rattle.qs_syntax_resolve.specs.Pattern.{closed, put, finished, Put, pattern_level, group_level, group_of}
use Rattle.qs_syntax_resolve.specs.inner.Pattern.{put_filter, put_triples, empty_group, each_element, element_level}
use Rattle.qs_syntax_resolve.specs.Resolving.{Resolving, ◌>>=◌, pure, all}
use Rattle.qs_syntax_resolve.specs.Triples.{triples_after}
use Rattle.qs_update_laws.specs.inner.NoBlank.{all as all_hold, cell_has_no_blank, row_has_no_blank}
use Rattle.qs_update_laws.specs.inner.Written.{data_have_no_blank, values_level, group_level as values_group_level, values_have_no_blank, pattern_values_have_no_blank}
use Rattle.qs_update_laws.proofs.Lists.{each_append, all_pass}
use Rattle.qs_update_laws.proofs.Resolving.{Finds, Any, any, behind, finds_too, finds_all}

-- ---- tables

abbrev FreeCell : Option Term → Type 0
FreeCell c = cell_has_no_blank c ≡ true

abbrev FreeRow : List (Option Term) → Type 0
FreeRow row = row_has_no_blank row ≡ true

abbrev FreeData : InlineData → Type 0
FreeData table = data_have_no_blank table ≡ true

value_free : (v : DataValue) → Finds FreeCell (value_of v)
value_free (written.Iri i) = behind Any FreeCell (iri i) (λ t. pure (Some (term.Iri t))) (any (iri i)) (λ t h s. refl)
value_free (written.Literal l) = behind Any FreeCell (literal l) (λ t. pure (Some (term.Literal t))) (any (literal l)) (λ t h s. refl)
value_free written.Undefined = λ s. refl

values_free : (vs : List DataValue) → AllByRecursion (Finds FreeCell) (map value_of vs)
values_free [] = tt
values_free (v ∷ vs) = (value_free v, values_free vs)

row_free : (vs : List DataValue) → Finds FreeRow (row_of vs)
unfolding row_of
row_free vs = finds_too (AllByRecursion FreeCell) FreeRow (λ row h. all_pass cell_has_no_blank row h) (all (map value_of vs)) (finds_all FreeCell [] (map value_of vs) tt (values_free vs))

each_row_free : (rows : List (List DataValue)) → AllByRecursion (Finds FreeRow) (map row_of rows)
each_row_free [] = tt
each_row_free (row ∷ rows) = (row_free row, each_row_free rows)

data_free : (d : WrittenData) → Finds FreeData (inline_data d)
unfolding inline_data
data_free d =
    behind Any FreeData (variables_of d.variables) (λ vs. rows_of d.rows >>= (λ rows. pure (record { variables = vs; rows = rows }))) (any (variables_of d.variables)) (λ vs h.
    behind (AllByRecursion FreeRow) FreeData (rows_of d.rows) (λ rows. pure (record { variables = vs; rows = rows }))
    (finds_all FreeRow [] (map row_of d.rows) tt (each_row_free d.rows)) (λ rows k s. all_pass row_has_no_blank rows k))

-- ---- patterns by their variants

abbrev FreePattern : GraphPattern → Type 0
FreePattern p = pattern_values_have_no_blank p ≡ true

abbrev pub FreeGroup : Group → Type 0
FreeGroup g = values_have_no_blank g ≡ true

by_level : (z : shape.GraphPattern-F GraphPattern Group) → values_level (pattern.map-GraphPattern GraphPattern Group Bool Bool pattern_values_have_no_blank values_have_no_blank z) ≡ true → FreePattern (pattern.roll-GraphPattern z)
by_level z h = pattern.fold-roll-GraphPattern Bool Bool values_level values_group_level z ∙ h

all_groups : (gs : List Group) → AllByRecursion FreeGroup gs → all_hold (map values_have_no_blank gs) ≡ true
all_groups [] h = refl
all_groups (g ∷ gs) h = rw h.0 (all_groups gs h.1)

all_patterns : (ps : List GraphPattern) → AllByRecursion FreePattern ps → all_hold (map pattern_values_have_no_blank ps) ≡ true
all_patterns [] h = refl
all_patterns (p ∷ ps) h = rw h.0 (all_patterns ps h.1)

triples_free : (ts : List Triple) → FreePattern (made.Triples ts)
triples_free ts = subst FreePattern (rolls-Triples ts) (by_level (shape.Triples ts) refl)

union_free : (gs : List Group) → AllByRecursion FreeGroup gs → FreePattern (made.Union gs)
union_free gs h = subst FreePattern (rolls-Union gs) (by_level (shape.Union gs) (all_groups gs h))

optional_free : (g : Group) → FreeGroup g → FreePattern (made.Optional g)
optional_free g h = subst FreePattern (rolls-Optional g) (by_level (shape.Optional g) h)

minus_free : (g : Group) → FreeGroup g → FreePattern (made.Minus g)
minus_free g h = subst FreePattern (rolls-Minus g) (by_level (shape.Minus g) h)

graph_free : (n : VarOrIri) (g : Group) → FreeGroup g → FreePattern (made.Graph n g)
graph_free n g h = subst FreePattern (rolls-Graph n g) (by_level (shape.Graph n g) h)

bind_free : (e : Expression) (v : Variable) → FreePattern (made.Bind e v)
bind_free e v = subst FreePattern (rolls-Bind e v) (by_level (shape.Bind e v) refl)

table_free : (table : InlineData) → FreeData table → FreePattern (made.Values table)
table_free table h = subst FreePattern (rolls-Values table) (by_level (shape.Values table) h)

-- ---- groups so far

abbrev FreeSoFar : OpenGroup → Type 0
FreeSoFar g = AllByRecursion FreePattern g.patterns

closed_free : (ps : List GraphPattern) (ts : List Triple) → AllByRecursion FreePattern ps → AllByRecursion FreePattern (closed ps ts)
closed_free ps [] h = h
closed_free ps (t ∷ ts) h = each_append FreePattern ps (made.Triples (t ∷ ts) ∷ []) h (triples_free (t ∷ ts), tt)

put_free : (p : GraphPattern) (g : OpenGroup) → FreePattern p → FreeSoFar g → FreeSoFar (put p g)
unfolding put
put_free p g h k = each_append FreePattern (closed g.patterns g.triples) (p ∷ []) (closed_free g.patterns g.triples k) (h, tt)

finished_free : (g : OpenGroup) → FreeSoFar g → FreeGroup (finished g)
unfolding finished
finished_free g h =
    group.fold-roll-Group Bool Bool values_level values_group_level (record { patterns = closed g.patterns g.triples; filters = g.filters })
    ∙ all_patterns (closed g.patterns g.triples) (closed_free g.patterns g.triples h)

-- ---- all groups

abbrev of_pattern : WrittenPattern → Put
of_pattern = fold-GraphPattern Put Put (Resolving Group) pattern_level element_level group_level

abbrev of_element : Element → Put
of_element = fold-Element Put Put (Resolving Group) pattern_level element_level group_level

abbrev of_group : WrittenGroup → Resolving Group
of_group = fold-Group Put Put (Resolving Group) pattern_level element_level group_level

abbrev Puts : Put → Type 0
Puts f = (g : OpenGroup) → FreeSoFar g → Finds FreeSoFar (f g)

abbrev KnownPattern : Type 0
KnownPattern = (p : WrittenPattern) × Puts (of_pattern p)

abbrev KnownElement : Type 0
KnownElement = (e : Element) × Puts (of_element e)

abbrev KnownGroup : Type 0
KnownGroup = (g : WrittenGroup) × Finds FreeGroup (of_group g)

abbrev inner : tree.GraphPattern-F KnownPattern KnownElement KnownGroup → tree.GraphPattern-F WrittenPattern Element WrittenGroup
inner y = map-GraphPattern KnownPattern KnownElement KnownGroup WrittenPattern Element WrittenGroup (λ e. e.0) (λ e. e.0) (λ e. e.0) y

abbrev inner_element : tree.Element-F KnownPattern KnownElement KnownGroup → tree.Element-F WrittenPattern Element WrittenGroup
inner_element y = map-Element KnownPattern KnownElement KnownGroup WrittenPattern Element WrittenGroup (λ e. e.0) (λ e. e.0) (λ e. e.0) y

abbrev inner_group : tree.Group-F KnownPattern KnownElement KnownGroup → tree.Group-F WrittenPattern Element WrittenGroup
inner_group y = map-Group KnownPattern KnownElement KnownGroup WrittenPattern Element WrittenGroup (λ e. e.0) (λ e. e.0) (λ e. e.0) y

each_group : (es : List KnownGroup) → AllByRecursion (Finds FreeGroup) (map of_group (map (λ e. e.0) es))
each_group [] = tt
each_group (e ∷ es) = (e.1, each_group es)

level_free : (y : tree.GraphPattern-F KnownPattern KnownElement KnownGroup) → Puts (pattern_level (map-GraphPattern WrittenPattern Element WrittenGroup Put Put (Resolving Group) of_pattern of_element of_group (inner y)))
level_free (tree.Triples ts) = λ g h. behind Any FreeSoFar (triples_after g.triples ts) (λ more. pure (put_triples more g)) (any (triples_after g.triples ts)) (λ more k s. h)
level_free (tree.Union es) = λ g h.
    behind (AllByRecursion FreeGroup) FreeSoFar (all (map of_group (map (λ e. e.0) es))) (λ xs. pure (put (made.Union xs) g))
    (finds_all FreeGroup [] (map of_group (map (λ e. e.0) es)) tt (each_group es)) (λ xs k s. put_free (made.Union xs) g (union_free xs k) h)
level_free (tree.Optional e) = λ g h. behind FreeGroup FreeSoFar (of_group e.0) (λ x. pure (put (made.Optional x) g)) e.1 (λ x k s. put_free (made.Optional x) g (optional_free x k) h)
level_free (tree.Minus e) = λ g h. behind FreeGroup FreeSoFar (of_group e.0) (λ x. pure (put (made.Minus x) g)) e.1 (λ x k s. put_free (made.Minus x) g (minus_free x k) h)
level_free (tree.Graph n e) = λ g h.
    behind Any FreeSoFar (var_or_iri n) (λ x. of_group e.0 >>= (λ y. pure (put (made.Graph x y) g))) (any (var_or_iri n)) (λ x k.
    behind FreeGroup FreeSoFar (of_group e.0) (λ y. pure (put (made.Graph x y) g)) e.1 (λ y l s. put_free (made.Graph x y) g (graph_free x y l) h))
level_free (tree.Filter e) = λ g h. behind Any FreeSoFar (expression_of e) (λ x. pure (put_filter x g)) (any (expression_of e)) (λ x k s. h)
level_free (tree.Bind e v) = λ g h.
    behind Any FreeSoFar (expression_of e) (λ x. variable v >>= (λ y. pure (put (made.Bind x y) g))) (any (expression_of e)) (λ x k.
    behind Any FreeSoFar (variable v) (λ y. pure (put (made.Bind x y) g)) (any (variable v)) (λ y l s. put_free (made.Bind x y) g (bind_free x y) h))
level_free (tree.Values d) = λ g h. behind FreeData FreeSoFar (inline_data d) (λ x. pure (put (made.Values x) g)) (data_free d) (λ x k s. put_free (made.Values x) g (table_free x k) h)

elements_free : (g : OpenGroup) (es : List KnownElement) → FreeSoFar g → Finds FreeSoFar (each_element g (map of_element (map (λ e. e.0) es)))
elements_free g [] h = λ s. h
elements_free g (e ∷ es) h =
    behind FreeSoFar FreeSoFar (of_element e.0 g) (λ k. each_element k (map of_element (map (λ e. e.0) es))) (e.1 g h) (λ k l. elements_free k es l)

rolled_free : (y : tree.GraphPattern-F KnownPattern KnownElement KnownGroup) → Puts (of_pattern (roll-GraphPattern (inner y)))
rolled_free y = subst Puts (sym (fold-roll-GraphPattern Put Put (Resolving Group) pattern_level element_level group_level (inner y))) (level_free y)

rolled_element_free : (y : tree.Element-F KnownPattern KnownElement KnownGroup) → Puts (of_element (roll-Element (inner_element y)))
rolled_element_free y = subst Puts (sym (fold-roll-Element Put Put (Resolving Group) pattern_level element_level group_level (inner_element y))) y.pattern.1

rolled_group_free : (y : tree.Group-F KnownPattern KnownElement KnownGroup) → Finds FreeGroup (of_group (roll-Group (inner_group y)))
rolled_group_free y =
    subst (Finds FreeGroup) (sym (fold-roll-Group Put Put (Resolving Group) pattern_level element_level group_level (inner_group y)))
    (behind FreeSoFar FreeGroup (each_element empty_group (map of_element (map (λ e. e.0) y.elements))) (λ h. pure (finished h)) (elements_free empty_group y.elements tt) (λ h k s. finished_free h k))

pub group_free : (g : WrittenGroup) → Finds FreeGroup (group_of g)
unfolding group_of
group_free =
    ind-Group (λ p. Puts (of_pattern p)) (λ e. Puts (of_element e)) (λ g. Finds FreeGroup (of_group g))
    (λ x y is. subst (λ z. Puts (of_pattern (roll-GraphPattern z))) is (rolled_free y)) (λ x y is. subst (λ z. Puts (of_element (roll-Element z))) is (rolled_element_free y))
    (λ x y is. subst (λ z. Finds FreeGroup (of_group (roll-Group z))) is (rolled_group_free y))
