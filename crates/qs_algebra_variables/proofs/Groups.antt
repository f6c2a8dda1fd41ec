-- The steps of a group bind what is in scope of it: by induction on the group.
use Rattle.std.proofs.Common.{◌≡◌, ◌<◌, ℕ, Bool, true, false, ◌||◌, ◌&&◌, ◌==◌, nat_eq, List, [], ◌∷◌, ◌++◌, length, map, Some, slice_get, refl, sym, ap, ◌∙◌, subst}
use Rattle.std.proofs.lemmas.Bool.{lt-ltb}
use Rattle.std.proofs.lemmas.List.Folds.{list_any-append}
use Rattle.std.specs.Cmp.Lexicographic.{pointwise}
use Rattle.std.specs.List.{list_any, fold}
use Rattle.qs_terms.specs.declared.term.Term.TheVariants as value
use Rattle.qs_expr_meaning.specs.declared.expr.Expr.{Expr}
use Rattle.qs_syntax_ast.specs.declared.pattern.Group.{Group, map-Group, roll-Group, fold-roll-Group, ind-Group}
use Rattle.qs_syntax_ast.specs.declared.pattern.GraphPattern.{GraphPattern, map-GraphPattern, roll-GraphPattern, fold-roll-GraphPattern}
use Rattle.qs_syntax_ast.specs.declared.pattern.GraphPattern.TheOpen as written
use Rattle.qs_syntax_ast.specs.declared.term.VarOrIri.{VarOrIri}
use Rattle.qs_syntax_ast.specs.declared.term.VarOrIri.TheVariants as name_of
use Rattle.qs_syntax_scope.specs.Names.{Name, contains}
use Rattle.qs_syntax_scope.proofs.Kept.{names_in_scope}
use Rattle.qs_syntax_scope.specs.inner.Met.{after}
use Rattle.qs_syntax_scope.specs.Places.{place_of}
use Rattle.qs_syntax_scope.specs.Scope.{in_scope}
use Rattle.qs_syntax_scope.specs.inner.Scope.{Part, add_part, add_operand, pattern_part, group_parts as scope_parts, scope_of, part}
use Rattle.qs_syntax_scope.specs.Variables.{graph_variables}
use Rattle.qs_syntax_scope.specs.declared.met.Met.{Met}
use Rattle.qs_algebra_patterns.specs.declared.pattern.PatternNode.{PatternNode}
use Rattle.qs_algebra_patterns.specs.declared.pattern.PatternNode.TheOpen.{Step-F, Join, LeftJoin, Minus, Extend}
use Rattle.qs_algebra_patterns.specs.declared.pattern.PatternNode.TheVariants as pattern
use Rattle.qs_algebra_patterns.specs.declared.pattern.Step.{Step, map-Step, out-Step, fold_out-Step}
use Rattle.qs_algebra.specs.Basic.{basic_pattern}
use Rattle.qs_algebra.specs.Expressions.{expr_of}
use Rattle.qs_algebra.specs.Numbers.{hidden_of}
use Rattle.qs_algebra.specs.Translation.{one_or_union, in_graph, table_of, alone, unfiltered, filtered, closed, step_level, group_level, group_parts, group_pattern}
use Rattle.qs_algebra.specs.inner.Translation.{number_of}
use Rattle.qs_algebra.specs.inner.Translation.{step_of}
use Rattle.qs_algebra.specs.declared.parts.GroupParts.{GroupParts}
use Rattle.qs_algebra.specs.inner.Possible.{is_possible, is_possible_step, is_possible_level, is_possible_step_level}
use Rattle.qs_algebra_variables.proofs.Numbers.{or_false, number_is, basic_is, columns_are}
use Rattle.qs_algebra.proofs.Variants.{possible_basic, possible_group, possible_union, possible_graph, possible_each_graph, possible_values, possible_join, possible_left_join, possible_minus, possible_extend}

-- ---- groups that are closed

module _ (width v : ℕ) where
  abbrev steps_bind : List Step → Bool
  steps_bind steps = list_any (λ s. is_possible_step width s v) steps

  one_step : (s : Step) (b : Bool) → is_possible_step width s v ≡ b → b ≡ steps_bind (s ∷ [])
  one_step s b e = sym e ∙ sym (or_false (is_possible_step width s v))

  alone_is : (s : Step) (z : Step-F PatternNode Step) → is_possible_step width s v ≡ is_possible_step_level (map-Step PatternNode Step (ℕ → Bool) (ℕ → Bool) (is_possible width) (is_possible_step width) z) v
      → is_possible width (alone s z) v ≡ steps_bind (s ∷ [])
  alone_is s (Join p) h = one_step s (is_possible width p v) h
  alone_is s (LeftJoin p conditions) h = possible_group width v (s ∷ []) []
  alone_is s (Minus p) h = possible_group width v (s ∷ []) []
  alone_is s (Extend w e) h = possible_group width v (s ∷ []) []

  unfiltered_is : (steps : List Step) → is_possible width (unfiltered steps) v ≡ steps_bind steps
  unfiltered_is [] = possible_group width v [] []
  unfiltered_is (s ∷ []) = alone_is s (out-Step s) (ap (λ (f : ℕ → Bool). f v) (fold_out-Step (ℕ → Bool) (ℕ → Bool) (is_possible_level width) is_possible_step_level s))
  unfiltered_is (s ∷ t ∷ more) = possible_group width v (s ∷ t ∷ more) []

  closed_is : (parts : GroupParts) → is_possible width (closed parts) v ≡ steps_bind parts.steps
  closed_is parts = by parts.steps parts.conditions
    where
      by : (steps : List Step) (conditions : List Expr) → is_possible width (filtered steps conditions) v ≡ steps_bind steps
      by steps [] = unfiltered_is steps
      by steps (f ∷ fs) = possible_group width v steps (f ∷ fs)

  union_is : (parts : List PatternNode) → is_possible width (one_or_union parts) v ≡ list_any (λ p. is_possible width p v) parts
  union_is [] = possible_union width v []
  union_is (p ∷ []) = sym (or_false (is_possible width p v))
  union_is (p ∷ q ∷ parts) = possible_union width v (p ∷ q ∷ parts)

-- ---- what parts bring into scope

or_turned : (a b c : Bool) → ((a || b) || c) ≡ (a || (b || c))
or_turned true b c = refl
or_turned false b c = refl

module _ (name : Name) where
  abbrev has : List Name → Bool
  has ns = contains ns name

  has_append : (a b : List Name) → has (a ++ b) ≡ (has a || has b)
  has_append a b = list_any-append (λ one. pointwise nat_eq one name) a b

  parts_have : (m : Met) (ps : List Part) → has (fold add_part m ps).names ≡ (has m.names || list_any (λ (p : Part). has p.names) ps)
  parts_have m [] = sym (or_false (has m.names))
  parts_have m (p ∷ ps) =
      parts_have (add_part m p) ps
      ∙ (ap (λ b. b || list_any (λ (q : Part). has q.names) ps) (has_append m.names p.names) ∙ or_turned (has m.names) (has p.names) (list_any (λ (q : Part). has q.names) ps))

  operands_have : (m : Met) (ps : List Met) → has (fold add_operand m ps).names ≡ (has m.names || list_any (λ (p : Met). has p.names) ps)
  operands_have m [] = sym (or_false (has m.names))
  operands_have m (p ∷ ps) =
      operands_have (add_operand m p) ps
      ∙ (ap (λ b. b || list_any (λ (q : Met). has q.names) ps) (has_append m.names p.names) ∙ or_turned (has m.names) (has p.names) (list_any (λ (q : Met). has q.names) ps))

-- ---- groups

module _ (names : List Name) (name : Name) (within : place_of names name < length names) (at : slice_get names (place_of names name) ≡ Some name) where
  abbrev width : ℕ
  width = length names

  abbrev v : ℕ
  v = place_of names name

  abbrev Agrees : GraphPattern → Type 0
  Agrees p = is_possible_step width (step_of names p) v ≡ contains (part p).names name

  abbrev AgreesGroup : Group → Type 0
  AgreesGroup g = steps_bind width v (group_parts names g).steps ≡ contains (scope_of g).names name

  abbrev Known : Type 0
  Known = (p : GraphPattern) × Agrees p

  abbrev KnownGroup : Type 0
  KnownGroup = (g : Group) × AgreesGroup g

  abbrev inner : written.GraphPattern-F Known KnownGroup → written.GraphPattern-F GraphPattern Group
  inner y = map-GraphPattern Known KnownGroup GraphPattern Group (λ e. e.0) (λ e. e.0) y

  abbrev inner_group : written.Group-F Known KnownGroup → written.Group-F GraphPattern Group
  inner_group y = map-Group Known KnownGroup GraphPattern Group (λ e. e.0) (λ e. e.0) y

  group_is : (e : KnownGroup) → is_possible width (closed (group_parts names e.0)) v ≡ contains (scope_of e.0).names name
  group_is e = closed_is width v (group_parts names e.0) ∙ e.1

  groups_are : (es : List KnownGroup) → list_any (λ p. is_possible width p v) (map closed (map (group_parts names) (map (λ e. e.0) es))) ≡ list_any (λ (m : Met). contains m.names name) (map (λ g. scope_of g) (map (λ e. e.0) es))
  groups_are [] = refl
  groups_are (e ∷ es) = rw (group_is e, groups_are es) refl

  graph_is : (n : VarOrIri) (p : PatternNode) → is_possible width (in_graph names (Some n) p) v ≡ (contains (graph_variables n) name || is_possible width p v)
  graph_is (name_of.Variable w) p =
      possible_each_graph width v (place_of names w.name) p
      ∙ ap (λ b. b || is_possible width p v) (ap (λ b. b && (place_of names w.name == v)) (lt-ltb v width within) ∙ number_is names name within at w)
  graph_is (name_of.Iri i) p = possible_graph width v (value.Iri i) p

  level_agrees : (y : written.GraphPattern-F Known KnownGroup)
      → is_possible_step width (step_level names (map-GraphPattern GraphPattern Group Step GroupParts (step_of names) (group_parts names) (inner y))) v
      ≡ contains (pattern_part (map-GraphPattern GraphPattern Group Part Met (λ p. part p) (λ g. scope_of g) (inner y))).names name
  level_agrees (written.Triples ts) =
      possible_join width v (pattern.Basic (basic_pattern names ts)) ∙ (possible_basic width v (basic_pattern names ts) ∙ basic_is names name within at (hidden_of ts) ts)
  level_agrees (written.Union es) =
      possible_join width v (one_or_union (map closed (map (group_parts names) (map (λ e. e.0) es))))
      ∙ (union_is width v (map closed (map (group_parts names) (map (λ e. e.0) es))) ∙ (groups_are es ∙ sym (operands_have name (after []) (map (λ g. scope_of g) (map (λ e. e.0) es)))))
  level_agrees (written.Optional e) =
      possible_left_join width v (unfiltered (group_parts names e.0).steps) (group_parts names e.0).conditions ∙ (unfiltered_is width v (group_parts names e.0).steps ∙ e.1)
  level_agrees (written.Minus e) = possible_minus width v (closed (group_parts names e.0))
  level_agrees (written.Graph n e) =
      possible_join width v (in_graph names (Some n) (closed (group_parts names e.0)))
      ∙ (graph_is n (closed (group_parts names e.0)) ∙ (ap (λ b. contains (graph_variables n) name || b) (group_is e) ∙ sym (has_append name (graph_variables n) (scope_of e.0).names)))
  level_agrees (written.Bind e w) = possible_extend width v (number_of names w) (expr_of names e) ∙ number_is names name within at w
  level_agrees (written.Values table) =
      possible_join width v (pattern.Values (table_of names table))
      ∙ (possible_values width v (table_of names table)
      ∙ (ap (λ b. b && list_any (λ w. w == v) (map (number_of names) table.variables)) (lt-ltb v width within) ∙ columns_are names name within at table.variables))

  steps_agree : (es : List Known) → steps_bind width v (map (step_of names) (map (λ e. e.0) es)) ≡ list_any (λ (p : Part). contains p.names name) (map (λ p. part p) (map (λ e. e.0) es))
  steps_agree [] = refl
  steps_agree (e ∷ es) = rw (e.1, steps_agree es) refl

  rolled_agrees : (y : written.GraphPattern-F Known KnownGroup) → Agrees (roll-GraphPattern (inner y))
  rolled_agrees y =
      ap (λ s. is_possible_step width s v) (fold-roll-GraphPattern Step GroupParts (step_level names) (group_level names) (inner y))
      ∙ (level_agrees y ∙ sym (ap (λ (p : Part). contains p.names name) (fold-roll-GraphPattern Part Met pattern_part scope_parts (inner y))))

  rolled_group_agrees : (y : written.Group-F Known KnownGroup) → AgreesGroup (roll-Group (inner_group y))
  rolled_group_agrees y =
      ap (λ (g : GroupParts). steps_bind width v g.steps) (fold-roll-Group Step GroupParts (step_level names) (group_level names) (inner_group y))
      ∙ (steps_agree y.patterns ∙ (sym (parts_have name (after []) (map (λ p. part p) (map (λ e. e.0) y.patterns)))
      ∙ sym (ap (λ (m : Met). contains m.names name) (fold-roll-Group Part Met pattern_part scope_parts (inner_group y)))))

  each_agrees : (g : Group) → AgreesGroup g
  each_agrees = ind-Group Agrees AgreesGroup (λ x y is. subst (λ z. Agrees (roll-GraphPattern z)) is (rolled_agrees y)) (λ x y is. subst (λ z. AgreesGroup (roll-Group z)) is (rolled_group_agrees y))

  pub pattern_agrees : (g : Group) → is_possible width (group_pattern names g) v ≡ contains (in_scope g) name
  pattern_agrees g = closed_is width v (group_parts names g) ∙ each_agrees g ∙ ap (λ ns. contains ns name) (names_in_scope g)
