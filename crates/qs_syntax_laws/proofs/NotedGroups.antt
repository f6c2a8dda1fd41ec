-- A table and a group note the variables that stand in them.
use Rattle.std.proofs.Common.{◌≡◌, List, [], ◌∷◌, ◌++◌, map, Some, None, sym, ap, subst, ◌∙◌, append_assoc}
use Rattle.std.proofs.lemmas.List.Concat.{flat_map_single}
use Rattle.std.specs.List.{AllByRecursion, flat_map}
use Rattle.qs_terms.specs.declared.term.Term.TheVariants as term
use Rattle.qs_syntax_tree.specs.declared.token.Span.{Span}
use Rattle.qs_syntax_tree.specs.declared.pattern.DataValue.{DataValue}
use Rattle.qs_syntax_tree.specs.declared.pattern.DataValue.TheVariants as written
use Rattle.qs_syntax_tree.specs.declared.pattern.InlineData.{InlineData as WrittenData}
use Rattle.qs_syntax_tree.specs.declared.pattern.Group.{Group as WrittenGroup, fold-Group, map-Group, roll-Group, fold-roll-Group, ind-Group}
use Rattle.qs_syntax_tree.specs.declared.pattern.Element.{Element, fold-Element, map-Element, roll-Element, fold-roll-Element}
use Rattle.qs_syntax_tree.specs.declared.pattern.GraphPattern.{GraphPattern as WrittenPattern, fold-GraphPattern, map-GraphPattern, roll-GraphPattern, fold-roll-GraphPattern}
use Rattle.qs_syntax_tree.specs.declared.pattern.GraphPattern.TheOpen as tree
use Rattle.qs_syntax_ast.specs.declared.expression.Expression.{Expression}
use Rattle.qs_syntax_ast.specs.declared.pattern.Group as group
use Rattle.qs_syntax_ast.specs.declared.pattern.Group.{Group}
use Rattle.qs_syntax_ast.specs.declared.pattern.GraphPattern as pattern
use Rattle.qs_syntax_ast.specs.declared.pattern.GraphPattern.{GraphPattern}
use Rattle.qs_syntax_ast.specs.declared.pattern.GraphPattern.TheOpen as shape
use Rattle.qs_syntax_ast.specs.declared.pattern.GraphPattern.TheVariants as made
use Rattle.qs_syntax_ast.specs.declared.pattern.GraphPattern.TheVariants.{rolls-Triples, rolls-Union, rolls-Optional, rolls-Minus, rolls-Graph, rolls-Bind, rolls-Values}
use Rattle.qs_syntax_ast.specs.declared.pattern.Triple.{Triple}
use Rattle.qs_syntax_ast.specs.declared.term.Variable.{Variable}
use Rattle.qs_syntax_resolve.specs.declared.open_group.OpenGroup.{OpenGroup}
use Rattle.qs_syntax_resolve.specs.Data.{value_of, row_of, inline_data}
use Rattle.qs_syntax_resolve.specs.inner.Data.{rows_of, variables_of}
use Rattle.qs_syntax_resolve.specs.Expression.{expression_of}
use Rattle.qs_syntax_resolve.specs.Leaves.{iri, literal, variable, var_or_iri}
use Rattle.qs_syntax_resolve.specs.Pattern.{closed, put, finished, Put, pattern_level, group_level, group_of}
use Rattle.qs_syntax_resolve.specs.inner.Pattern.{put_filter, put_triples, empty_group, each_element, element_level}
use Rattle.qs_syntax_resolve.specs.Resolving.{Resolving, all}
use Rattle.qs_syntax_resolve.specs.Triples.{triples_after}
use Rattle.qs_syntax_scope.specs.Names.{Name, joined}
use Rattle.qs_syntax_scope.specs.Variables.{graph_variables, column_names}
use Rattle.qs_syntax_scope.specs.inner.VariablesIn.{in_expression, pattern_level as names_level, in_pattern, in_group}
use Rattle.qs_syntax_laws.proofs.NotedSteps.{Among, same, equal, through, none, both, left, in_left, in_right, placing, Notes, ends, of_fewer, beside_too, goes_on, reads, makes, one_more, each, turns, joined_flat}
use Rattle.qs_syntax_laws.proofs.NotedLeaves.{name_of, variable_notes, empty, iri_notes, literal_notes, graph_notes}
use Rattle.qs_syntax_laws.proofs.NotedExpressions.{expression_notes}
use Rattle.qs_syntax_laws.proofs.NotedTriples.{found_in, triples_note}

-- ---- tables

each_variable : (vs : List Span) → AllByRecursion (Notes [] name_of) (map variable vs)
each_variable [] = tt
each_variable (v ∷ vs) = (variable_notes v, each_variable vs)

value_notes : (v : DataValue) → Notes [] empty (value_of v)
value_notes (written.Iri i) = makes (iri i) (λ t. Some (term.Iri t)) (iri_notes i) (λ t. none [])
value_notes (written.Literal l) = makes (literal l) (λ t. Some (term.Literal t)) (literal_notes l) (λ t. none [])
value_notes written.Undefined = ends None (none [])

each_value : (vs : List DataValue) → AllByRecursion (Notes [] empty) (map value_of vs)
each_value [] = tt
each_value (v ∷ vs) = (value_notes v, each_value vs)

row_notes : (vs : List DataValue) → Notes [] empty (row_of vs)
unfolding row_of
row_notes vs = of_fewer (λ row. none _) (each empty (map value_of vs) (each_value vs))

each_row : (rows : List (List DataValue)) → AllByRecursion (Notes [] empty) (map row_of rows)
each_row [] = tt
each_row (row ∷ rows) = (row_notes row, each_row rows)

pub data_note : (d : WrittenData) → Notes [] column_names (inline_data d)
unfolding inline_data
data_note d =
    goes_on (variables_of d.variables) _ (each name_of (map variable d.variables) (each_variable d.variables)) (λ vs.
    reads (flat_map name_of vs) (rows_of d.rows) _ (each empty (map row_of d.rows) (each_row d.rows)) (λ rows.
    ends _ (through (equal _ _ (sym (flat_map_single (λ (v : Variable). v.name) vs))) (left (flat_map name_of vs) _))))

-- ---- the patterns that are made, by their variants

abbrev group_names_level : shape.Group-F (List Name) (List Name) → List Name
group_names_level g = joined g.patterns ++ joined (map in_expression g.filters)

abbrev names_in : shape.GraphPattern-F GraphPattern Group → List Name
names_in z = names_level (pattern.map-GraphPattern GraphPattern Group (List Name) (List Name) in_pattern in_group z)

by_variant : (z : shape.GraphPattern-F GraphPattern Group) (p : GraphPattern) → pattern.roll-GraphPattern z ≡ p → Among (in_pattern p) (names_in z)
by_variant z p r = equal _ _ (sym (ap in_pattern r) ∙ pattern.fold-roll-GraphPattern (List Name) (List Name) names_level group_names_level z)

-- ---- groups so far

abbrev aside : OpenGroup → List Name
aside g = flat_map in_pattern g.patterns ++ flat_map in_expression g.filters

abbrev so_far : OpenGroup → List Name
so_far g = aside g ++ found_in g.triples

closed_among : (ps : List GraphPattern) (ts : List Triple) → Among (flat_map in_pattern (closed ps ts)) (flat_map in_pattern ps ++ found_in ts)
closed_among ps [] = left (flat_map in_pattern ps) []
closed_among ps (t ∷ ts) =
    through (one_more in_pattern ps (made.Triples (t ∷ ts))) (both (search placing) (in_right (flat_map in_pattern ps) (by_variant (shape.Triples (t ∷ ts)) (made.Triples (t ∷ ts)) (rolls-Triples (t ∷ ts)))))

closed_early : (g : OpenGroup) → Among (flat_map in_pattern (closed g.patterns g.triples)) (so_far g)
closed_early g = through (closed_among g.patterns g.triples) (search placing)

put_among : (p : GraphPattern) (g : OpenGroup) (names : List Name) → Among (in_pattern p) names → Among (so_far (put p g)) (so_far g ++ names)
unfolding put
put_among p g names h =
    both (both (through (one_more in_pattern (closed g.patterns g.triples) p) (both (in_left names (closed_early g)) (in_right (so_far g) h))) (search placing)) (none _)

put_filter_among : (e : Expression) (g : OpenGroup) → Among (so_far (put_filter e g)) (so_far g ++ in_expression e)
put_filter_among e g = both (both (search placing) (through (one_more in_expression g.filters e) (search placing))) (search placing)

finished_among : (g : OpenGroup) → Among (in_group (finished g)) (so_far g)
unfolding finished
finished_among g =
    through (equal _ _ (group.fold-roll-Group (List Name) (List Name) names_level group_names_level (record { patterns = closed g.patterns g.triples; filters = g.filters })))
    (both (through (equal _ _ (joined_flat in_pattern (closed g.patterns g.triples))) (closed_early g)) (through (equal _ _ (joined_flat in_expression g.filters)) (search placing)))

-- ---- all groups

abbrev of_pattern : WrittenPattern → Put
of_pattern = fold-GraphPattern Put Put (Resolving Group) pattern_level element_level group_level

abbrev of_element : Element → Put
of_element = fold-Element Put Put (Resolving Group) pattern_level element_level group_level

abbrev of_group : WrittenGroup → Resolving Group
of_group = fold-Group Put Put (Resolving Group) pattern_level element_level group_level

abbrev Puts : Put → Type 0
Puts f = (g : OpenGroup) → Notes (so_far g) so_far (f g)

abbrev KnownPattern : Type 0
KnownPattern = (p : WrittenPattern) × Puts (of_pattern p)

abbrev KnownElement : Type 0
KnownElement = (e : Element) × Puts (of_element e)

abbrev KnownGroup : Type 0
KnownGroup = (g : WrittenGroup) × Notes [] in_group (of_group g)

abbrev inner : tree.GraphPattern-F KnownPattern KnownElement KnownGroup → tree.GraphPattern-F WrittenPattern Element WrittenGroup
inner y = map-GraphPattern KnownPattern KnownElement KnownGroup WrittenPattern Element WrittenGroup (λ e. e.0) (λ e. e.0) (λ e. e.0) y

abbrev inner_element : tree.Element-F KnownPattern KnownElement KnownGroup → tree.Element-F WrittenPattern Element WrittenGroup
inner_element y = map-Element KnownPattern KnownElement KnownGroup WrittenPattern Element WrittenGroup (λ e. e.0) (λ e. e.0) (λ e. e.0) y

abbrev inner_group : tree.Group-F KnownPattern KnownElement KnownGroup → tree.Group-F WrittenPattern Element WrittenGroup
inner_group y = map-Group KnownPattern KnownElement KnownGroup WrittenPattern Element WrittenGroup (λ e. e.0) (λ e. e.0) (λ e. e.0) y

each_group : (es : List KnownGroup) → AllByRecursion (Notes [] in_group) (map of_group (map (λ e. e.0) es))
each_group [] = tt
each_group (e ∷ es) = (e.1, each_group es)

each_element_known : (es : List KnownElement) → AllByRecursion (λ (f : Put). (g : OpenGroup) → Notes (so_far g) so_far (f g)) (map of_element (map (λ e. e.0) es))
each_element_known [] = tt
each_element_known (e ∷ es) = (e.1, each_element_known es)

level_notes : (y : tree.GraphPattern-F KnownPattern KnownElement KnownGroup) → Puts (pattern_level (map-GraphPattern WrittenPattern Element WrittenGroup Put Put (Resolving Group) of_pattern of_element of_group (inner y)))
level_notes (tree.Triples ts) = λ g. goes_on (triples_after g.triples ts) _ (beside_too (aside g) (triples_note g.triples ts)) (λ more. ends (put_triples more g) (same _))
level_notes (tree.Union es) = λ g.
    reads (so_far g) (all (map of_group (map (λ e. e.0) es))) _ (each in_group _ (each_group es)) (λ xs.
    ends (put (made.Union xs) g) (put_among (made.Union xs) g _ (through (by_variant (shape.Union xs) _ (rolls-Union xs)) (equal _ _ (joined_flat in_group xs)))))
level_notes (tree.Optional e) = λ g. reads (so_far g) (of_group e.0) _ e.1 (λ x. ends (put (made.Optional x) g) (put_among (made.Optional x) g _ (by_variant (shape.Optional x) _ (rolls-Optional x))))
level_notes (tree.Minus e) = λ g. reads (so_far g) (of_group e.0) _ e.1 (λ x. ends (put (made.Minus x) g) (put_among (made.Minus x) g _ (by_variant (shape.Minus x) _ (rolls-Minus x))))
level_notes (tree.Graph n e) = λ g.
    reads (so_far g) (var_or_iri n) _ (graph_notes n) (λ x. reads (so_far g ++ graph_variables x) (of_group e.0) _ e.1 (λ y.
    ends (put (made.Graph x y) g) (through (put_among (made.Graph x y) g _ (by_variant (shape.Graph x y) _ (rolls-Graph x y))) (equal _ _ (sym (append_assoc (so_far g) (graph_variables x) (in_group y)))))))
level_notes (tree.Filter e) = λ g. reads (so_far g) (expression_of e) _ (expression_notes e) (λ x. ends (put_filter x g) (put_filter_among x g))
level_notes (tree.Bind e v) = λ g.
    reads (so_far g) (expression_of e) _ (expression_notes e) (λ x. reads (so_far g ++ in_expression x) (variable v) _ (variable_notes v) (λ y.
    ends (put (made.Bind x y) g) (through (put_among (made.Bind x y) g _ (by_variant (shape.Bind x y) _ (rolls-Bind x y))) (equal _ _ (sym (append_assoc (so_far g) (in_expression x) (name_of y)))))))
level_notes (tree.Values d) = λ g. reads (so_far g) (inline_data d) _ (data_note d) (λ x. ends (put (made.Values x) g) (put_among (made.Values x) g _ (by_variant (shape.Values x) _ (rolls-Values x))))

rolled_notes : (y : tree.GraphPattern-F KnownPattern KnownElement KnownGroup) → Puts (of_pattern (roll-GraphPattern (inner y)))
rolled_notes y = subst Puts (sym (fold-roll-GraphPattern Put Put (Resolving Group) pattern_level element_level group_level (inner y))) (level_notes y)

rolled_element_notes : (y : tree.Element-F KnownPattern KnownElement KnownGroup) → Puts (of_element (roll-Element (inner_element y)))
rolled_element_notes y = subst Puts (sym (fold-roll-Element Put Put (Resolving Group) pattern_level element_level group_level (inner_element y))) y.pattern.1

rolled_group_notes : (y : tree.Group-F KnownPattern KnownElement KnownGroup) → Notes [] in_group (of_group (roll-Group (inner_group y)))
rolled_group_notes y =
    subst (Notes [] in_group) (sym (fold-roll-Group Put Put (Resolving Group) pattern_level element_level group_level (inner_group y)))
    (goes_on (each_element empty_group (map of_element (map (λ e. e.0) y.elements))) _ (turns so_far (λ h put. put h) empty_group _ (each_element_known y.elements)) (λ h. ends (finished h) (finished_among h)))

pub group_notes : (g : WrittenGroup) → Notes [] in_group (group_of g)
unfolding group_of
group_notes =
    ind-Group (λ p. Puts (of_pattern p)) (λ e. Puts (of_element e)) (λ g. Notes [] in_group (of_group g))
    (λ x y is. subst (λ z. Puts (of_pattern (roll-GraphPattern z))) is (rolled_notes y)) (λ x y is. subst (λ z. Puts (of_element (roll-Element z))) is (rolled_element_notes y))
    (λ x y is. subst (λ z. Notes [] in_group (of_group (roll-Group z))) is (rolled_group_notes y))
