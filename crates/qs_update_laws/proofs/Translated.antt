-- The pattern of a text's group names no blank node, where no row of a VALUES has one: by induction on the group.
use Rattle.std.proofs.Common.{◌≡◌, Bool, true, List, [], ◌∷◌, map, Option, Some, None, option_map, refl, sym, subst, ◌∙◌}
use Rattle.std.specs.List.{filter_map, cons_option, list_all}
use Rattle.qs_terms.specs.declared.term.Term.TheVariants as value
use Rattle.qs_expr_meaning.specs.declared.expr.Expr.{Expr}
use Rattle.qs_syntax_ast.specs.declared.expression.Expression.{Expression}
use Rattle.qs_syntax_ast.specs.declared.pattern.Group.{Group, map-Group, roll-Group, fold-roll-Group, ind-Group}
use Rattle.qs_syntax_ast.specs.declared.pattern.GraphPattern.{GraphPattern, map-GraphPattern, roll-GraphPattern, fold-roll-GraphPattern}
use Rattle.qs_syntax_ast.specs.declared.pattern.GraphPattern.TheOpen as written
use Rattle.qs_syntax_ast.specs.declared.pattern.Triple.{Triple}
use Rattle.qs_syntax_ast.specs.declared.pattern.Verb.{Verb}
use Rattle.qs_syntax_ast.specs.declared.pattern.Verb.TheVariants as verb
use Rattle.qs_syntax_ast.specs.declared.term.TermPattern.{TermPattern}
use Rattle.qs_syntax_ast.specs.declared.term.TermPattern.TheVariants as term
use Rattle.qs_syntax_ast.specs.declared.term.VarOrIri.{VarOrIri}
use Rattle.qs_syntax_ast.specs.declared.term.VarOrIri.TheVariants as name
use Rattle.qs_syntax_ast.specs.declared.term.Variable.{Variable}
use Rattle.qs_syntax_ast.specs.declared.update.QuadBlock.{QuadBlock}
use Rattle.qs_syntax_scope.specs.Names.{Name}
use Rattle.qs_syntax_scope.specs.Firsts.{names_of}
use Rattle.qs_syntax_scope.specs.Places.{place_of}
use Rattle.qs_algebra_patterns.specs.declared.pattern.Step.{Step, map-Step, roll-Step, out-Step, fold-roll-Step, fold_out-Step}
use Rattle.qs_algebra_patterns.specs.declared.pattern.Step.TheVariants as step
use Rattle.qs_algebra_patterns.specs.declared.pattern.Step.TheVariants.{rolls-Join, rolls-LeftJoin, rolls-Minus, rolls-Extend}
use Rattle.qs_algebra_patterns.specs.declared.pattern.PatternNode.{PatternNode, map-PatternNode, roll-PatternNode, fold-roll-PatternNode}
use Rattle.qs_algebra_patterns.specs.declared.pattern.PatternNode.TheOpen.{PatternNode-F, Step-F, Basic, Group as OfGroup, Union, Graph, EachGraph, Values, Join, LeftJoin, Minus, Extend}
use Rattle.qs_algebra_patterns.specs.declared.pattern.PatternNode.TheVariants as pattern
use Rattle.qs_algebra_patterns.specs.declared.pattern.PatternNode.TheVariants.{rolls-Basic, rolls-Group, rolls-Union, rolls-Graph, rolls-EachGraph, rolls-Values}
use Rattle.qs_algebra.specs.Numbers.{hidden_of}
use Rattle.qs_algebra.specs.Basic.{term_slot, verb_slot, path_of, triple_pattern, path_pattern, basic_pattern}
use Rattle.qs_algebra.specs.inner.Basic.{triple_between, path_between, basic_of}
use Rattle.qs_algebra.specs.Expressions.{expr_of}
use Rattle.qs_algebra.specs.Translation.{one_or_union, in_graph, table_of, alone, unfiltered, filtered, closed, step_level as translated_level, group_level as translated_group, group_parts, translated_where, block_step, translated_blocks}
use Rattle.qs_algebra.specs.inner.Translation.{number_of}
use Rattle.qs_algebra.specs.inner.Translation.{step_of}
use Rattle.qs_algebra.specs.declared.hidden.Hidden.{Hidden}
use Rattle.qs_algebra.specs.declared.parts.GroupParts.{GroupParts}
use Rattle.qs_update_laws.specs.inner.NoBlank.{all, expr_has_no_blank, all_have_no_blank, slot_has_no_blank, triple_has_no_blank, path_has_no_blank, basic_has_no_blank, pattern_level, step_level, has_no_blank, step_has_no_blank}
use Rattle.qs_update_laws.specs.inner.Written.{values_level, group_level, values_have_no_blank, pattern_values_have_no_blank}
use Rattle.qs_update_laws.proofs.Lists.{both_hold, and_both}
use Rattle.qs_update_laws.proofs.WrittenExpressions.{expr_free}

abbrev NoBlank : PatternNode → Type 0
NoBlank p = has_no_blank p ≡ true

abbrev NoBlankStep : Step → Type 0
NoBlankStep s = step_has_no_blank s ≡ true

-- a pattern and a step by their variants
made : (z : PatternNode-F PatternNode Step) → pattern_level (map-PatternNode PatternNode Step Bool Bool has_no_blank step_has_no_blank z) ≡ true → NoBlank (roll-PatternNode z)
made z h = fold-roll-PatternNode Bool Bool pattern_level step_level z ∙ h

made_step : (z : Step-F PatternNode Step) → step_level (map-Step PatternNode Step Bool Bool has_no_blank step_has_no_blank z) ≡ true → NoBlankStep (roll-Step z)
made_step z h = fold-roll-Step Bool Bool pattern_level step_level z ∙ h

group_free : (steps : List Step) (conditions : List Expr) → all (map step_has_no_blank steps) ≡ true → all_have_no_blank conditions ≡ true → NoBlank (pattern.Group steps conditions)
group_free steps conditions h k =
    subst NoBlank (rolls-Group steps conditions) (made (OfGroup steps conditions) (and_both (all (map step_has_no_blank steps)) (all_have_no_blank conditions) h k))

join_free : (p : PatternNode) → NoBlank p → NoBlankStep (step.Join p)
join_free p h = subst NoBlankStep (rolls-Join p) (made_step (Join p) h)

-- ---- triples and paths

module _ (names : List Name) (hidden : Hidden) where
  term_free : (t : TermPattern) → slot_has_no_blank (term_slot names hidden t) ≡ true
  term_free (term.Variable v) = refl
  term_free (term.Iri i) = refl
  term_free (term.Literal l) = refl
  term_free (term.Blank b) = refl

  triples_free : (ts : List Triple) → list_all triple_has_no_blank (filter_map (triple_pattern names hidden) ts) ≡ true
  triples_free [] = refl
  triples_free (t ∷ ts) = by t.verb (triples_free ts)
    where
      by : (v : Verb) → list_all triple_has_no_blank (filter_map (triple_pattern names hidden) ts) ≡ true
          → list_all triple_has_no_blank (cons_option (option_map (triple_between (term_slot names hidden t.subject) (term_slot names hidden t.object)) (verb_slot names v)) (filter_map (triple_pattern names hidden) ts)) ≡ true
      by (verb.Variable v) h = and_both _ _ (and_both _ _ (term_free t.subject) (term_free t.object)) h
      by (verb.Iri i) h = and_both _ _ (and_both _ _ (term_free t.subject) (term_free t.object)) h
      by (verb.Path p) h = h

  paths_free : (ts : List Triple) → list_all path_has_no_blank (filter_map (path_pattern names hidden) ts) ≡ true
  paths_free [] = refl
  paths_free (t ∷ ts) = by t.verb (paths_free ts)
    where
      by : (v : Verb) → list_all path_has_no_blank (filter_map (path_pattern names hidden) ts) ≡ true
          → list_all path_has_no_blank (cons_option (option_map (path_between (term_slot names hidden t.subject) (term_slot names hidden t.object)) (path_of v)) (filter_map (path_pattern names hidden) ts)) ≡ true
      by (verb.Variable v) h = h
      by (verb.Iri i) h = h
      by (verb.Path p) h = and_both _ _ (and_both _ _ (term_free t.subject) (term_free t.object)) h

  basic_free : (ts : List Triple) → basic_has_no_blank (basic_of names hidden ts) ≡ true
  basic_free ts = and_both (list_all triple_has_no_blank (filter_map (triple_pattern names hidden) ts)) (list_all path_has_no_blank (filter_map (path_pattern names hidden) ts)) (triples_free ts) (paths_free ts)

-- ---- groups that are closed

alone_free : (s : Step) (z : Step-F PatternNode Step) → NoBlankStep s → step_level (map-Step PatternNode Step Bool Bool has_no_blank step_has_no_blank z) ≡ true → NoBlank (alone s z)
alone_free s (Join part) h k = k
alone_free s (LeftJoin part conditions) h k = group_free (s ∷ []) [] (and_both (step_has_no_blank s) true h refl) refl
alone_free s (Minus part) h k = group_free (s ∷ []) [] (and_both (step_has_no_blank s) true h refl) refl
alone_free s (Extend v e) h k = group_free (s ∷ []) [] (and_both (step_has_no_blank s) true h refl) refl

unfiltered_free : (steps : List Step) → all (map step_has_no_blank steps) ≡ true → NoBlank (unfiltered steps)
unfiltered_free [] h = group_free [] [] refl refl
unfiltered_free (s ∷ []) h =
    let k = (both_hold (step_has_no_blank s) true h).0 in alone_free s (out-Step s) k (sym (fold_out-Step Bool Bool pattern_level step_level s) ∙ k)
unfiltered_free (s ∷ t ∷ more) h = group_free (s ∷ t ∷ more) [] h refl

filtered_free : (steps : List Step) (conditions : List Expr) → all (map step_has_no_blank steps) ≡ true → all_have_no_blank conditions ≡ true → NoBlank (filtered steps conditions)
filtered_free steps [] h k = unfiltered_free steps h
filtered_free steps (f ∷ fs) h k = group_free steps (f ∷ fs) h k

union_free : (parts : List PatternNode) → all (map has_no_blank parts) ≡ true → NoBlank (one_or_union parts)
union_free [] h = subst NoBlank (rolls-Union []) (made (Union []) h)
union_free (p ∷ []) h = (both_hold (has_no_blank p) true h).0
union_free (p ∷ q ∷ parts) h = subst NoBlank (rolls-Union (p ∷ q ∷ parts)) (made (Union (p ∷ q ∷ parts)) h)

-- ---- groups

module _ (names : List Name) where
  abbrev IsFree : GraphPattern → Type 0
  IsFree p = pattern_values_have_no_blank p ≡ true → NoBlankStep (step_of names p)

  abbrev IsFreeGroup : Group → Type 0
  IsFreeGroup g = values_have_no_blank g ≡ true → (all (map step_has_no_blank (group_parts names g).steps) ≡ true) × (all_have_no_blank (group_parts names g).conditions ≡ true)

  abbrev Known : Type 0
  Known = (p : GraphPattern) × IsFree p

  abbrev KnownGroup : Type 0
  KnownGroup = (g : Group) × IsFreeGroup g

  abbrev inner : written.GraphPattern-F Known KnownGroup → written.GraphPattern-F GraphPattern Group
  inner y = map-GraphPattern Known KnownGroup GraphPattern Group (λ e. e.0) (λ e. e.0) y

  abbrev inner_group : written.Group-F Known KnownGroup → written.Group-F GraphPattern Group
  inner_group y = map-Group Known KnownGroup GraphPattern Group (λ e. e.0) (λ e. e.0) y

  closed_free : (e : KnownGroup) → values_have_no_blank e.0 ≡ true → NoBlank (closed (group_parts names e.0))
  closed_free e h = let k = e.1 h in filtered_free (group_parts names e.0).steps (group_parts names e.0).conditions k.0 k.1

  parts_free : (es : List KnownGroup) → all (map values_have_no_blank (map (λ e. e.0) es)) ≡ true → all (map has_no_blank (map closed (map (group_parts names) (map (λ e. e.0) es)))) ≡ true
  parts_free [] h = refl
  parts_free (e ∷ es) h =
      let k = both_hold (values_have_no_blank e.0) (all (map values_have_no_blank (map (λ e. e.0) es))) h in
      and_both (has_no_blank (closed (group_parts names e.0))) (all (map has_no_blank (map closed (map (group_parts names) (map (λ e. e.0) es))))) (closed_free e k.0) (parts_free es k.1)

  in_graph_free : (n : VarOrIri) (p : PatternNode) → NoBlank p → NoBlank (in_graph names (Some n) p)
  in_graph_free (name.Variable v) p h = subst NoBlank (rolls-EachGraph (place_of names v.name) p) (made (EachGraph (place_of names v.name) p) h)
  in_graph_free (name.Iri i) p h = subst NoBlank (rolls-Graph (value.Iri i) p) (made (Graph (value.Iri i) p) h)

  level_free : (y : written.GraphPattern-F Known KnownGroup) → values_level (map-GraphPattern GraphPattern Group Bool Bool pattern_values_have_no_blank values_have_no_blank (inner y)) ≡ true
      → NoBlankStep (translated_level names (map-GraphPattern GraphPattern Group Step GroupParts (step_of names) (group_parts names) (inner y)))
  level_free (written.Triples ts) h = join_free (pattern.Basic (basic_pattern names ts)) (subst NoBlank (rolls-Basic (basic_pattern names ts)) (made (Basic (basic_pattern names ts)) (basic_free names (hidden_of ts) ts)))
  level_free (written.Union es) h = join_free (one_or_union (map closed (map (group_parts names) (map (λ e. e.0) es)))) (union_free (map closed (map (group_parts names) (map (λ e. e.0) es))) (parts_free es h))
  level_free (written.Optional e) h =
      let k = e.1 h in
      let steps = (group_parts names e.0).steps in
      let conditions = (group_parts names e.0).conditions in
      subst NoBlankStep (rolls-LeftJoin (unfiltered steps) conditions)
      (made_step (LeftJoin (unfiltered steps) conditions) (and_both (has_no_blank (unfiltered steps)) (all_have_no_blank conditions) (unfiltered_free steps k.0) k.1))
  level_free (written.Minus e) h = subst NoBlankStep (rolls-Minus (closed (group_parts names e.0))) (made_step (Minus (closed (group_parts names e.0))) (closed_free e h))
  level_free (written.Graph n e) h = join_free (in_graph names (Some n) (closed (group_parts names e.0))) (in_graph_free n (closed (group_parts names e.0)) (closed_free e h))
  level_free (written.Bind value v) h = subst NoBlankStep (rolls-Extend (number_of names v) (expr_of names value)) (made_step (Extend (number_of names v) (expr_of names value)) (expr_free names value))
  level_free (written.Values table) h = join_free (pattern.Values (table_of names table)) (subst NoBlank (rolls-Values (table_of names table)) (made (Values (table_of names table)) h))

  steps_free : (es : List Known) → all (map pattern_values_have_no_blank (map (λ e. e.0) es)) ≡ true → all (map step_has_no_blank (map (step_of names) (map (λ e. e.0) es))) ≡ true
  steps_free [] h = refl
  steps_free (e ∷ es) h =
      let k = both_hold (pattern_values_have_no_blank e.0) (all (map pattern_values_have_no_blank (map (λ e. e.0) es))) h in
      and_both (step_has_no_blank (step_of names e.0)) (all (map step_has_no_blank (map (step_of names) (map (λ e. e.0) es)))) (e.1 k.0) (steps_free es k.1)

  conditions_free : (es : List Expression) → all_have_no_blank (map (expr_of names) es) ≡ true
  conditions_free [] = refl
  conditions_free (e ∷ es) = and_both (expr_has_no_blank (expr_of names e)) (all_have_no_blank (map (expr_of names) es)) (expr_free names e) (conditions_free es)

  rolled_free : (y : written.GraphPattern-F Known KnownGroup) → IsFree (roll-GraphPattern (inner y))
  rolled_free y h =
      subst NoBlankStep (sym (fold-roll-GraphPattern Step GroupParts (translated_level names) (translated_group names) (inner y)))
      (level_free y (sym (fold-roll-GraphPattern Bool Bool values_level group_level (inner y)) ∙ h))

  rolled_group_free : (y : written.Group-F Known KnownGroup) → IsFreeGroup (roll-Group (inner_group y))
  rolled_group_free y h =
      subst (λ (parts : GroupParts). (all (map step_has_no_blank parts.steps) ≡ true) × (all_have_no_blank parts.conditions ≡ true))
      (sym (fold-roll-Group Step GroupParts (translated_level names) (translated_group names) (inner_group y)))
      (steps_free y.patterns (sym (fold-roll-Group Bool Bool values_level group_level (inner_group y)) ∙ h), conditions_free y.filters)

  each_group_free : (g : Group) → IsFreeGroup g
  each_group_free = ind-Group IsFree IsFreeGroup (λ x y is. subst (λ z. IsFree (roll-GraphPattern z)) is (rolled_free y)) (λ x y is. subst (λ z. IsFreeGroup (roll-Group z)) is (rolled_group_free y))

-- the pattern of a WHERE by itself
pub where_free : (variables : List Variable) (group : Group) → values_have_no_blank group ≡ true → has_no_blank (translated_where variables group).root ≡ true
where_free variables group h = closed_free (names_of variables) (group, each_group_free (names_of variables) group) h

-- ---- blocks of quads

module _ (names : List Name) where
  in_block_free : (graph : Option VarOrIri) (p : PatternNode) → NoBlank p → NoBlank (in_graph names graph p)
  in_block_free None p h = h
  in_block_free (Some n) p h = in_graph_free names n p h

  block_free : (b : QuadBlock) → NoBlankStep (block_step names b)
  block_free b =
      let triples = pattern.Basic (basic_pattern names b.triples) in
      join_free (in_graph names b.graph triples)
      (in_block_free b.graph triples (subst NoBlank (rolls-Basic (basic_pattern names b.triples)) (made (Basic (basic_pattern names b.triples)) (basic_free names (hidden_of b.triples) b.triples))))

  block_steps_free : (bs : List QuadBlock) → all (map step_has_no_blank (map (block_step names) bs)) ≡ true
  block_steps_free [] = refl
  block_steps_free (b ∷ bs) = and_both (step_has_no_blank (block_step names b)) (all (map step_has_no_blank (map (block_step names) bs))) (block_free b) (block_steps_free bs)

-- the pattern of blocks of quads
pub blocks_free : (variables : List Variable) (blocks : List QuadBlock) → has_no_blank (translated_blocks variables blocks).root ≡ true
blocks_free variables blocks = unfiltered_free (map (block_step (names_of variables)) blocks) (block_steps_free (names_of variables) blocks)
