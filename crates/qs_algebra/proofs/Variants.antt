-- Which variables are certain and which are possible, by the variants of patterns and steps.
use Rattle.std.proofs.Common.{◌≡◌, ℕ, Bool, false, ◌&&◌, ◌||◌, ◌==◌, List, [], ◌∷◌, map, nat_lt, refl, ap, sym, ◌∙◌}
use Rattle.std.specs.List.{list_any, list_all}
use Rattle.qs_terms.specs.declared.term.Term.{Term}
use Rattle.qs_expr_meaning.specs.declared.expr.Expr.{Expr}
use Rattle.qs_algebra_patterns.specs.declared.pattern.BasicPattern.{BasicPattern}
use Rattle.qs_algebra_patterns.specs.declared.table.Table.{Table}
use Rattle.qs_algebra_patterns.specs.declared.pattern.Step.{Step, fold-roll-Step}
use Rattle.qs_algebra_patterns.specs.declared.pattern.Step.TheVariants.{Join, LeftJoin, Minus, Extend, rolls-Join, rolls-LeftJoin, rolls-Minus, rolls-Extend}
use Rattle.qs_algebra_patterns.specs.declared.pattern.PatternNode.{PatternNode, fold-roll-PatternNode}
use Rattle.qs_algebra_patterns.specs.declared.pattern.PatternNode.TheOpen as level
use Rattle.qs_algebra_patterns.specs.declared.pattern.PatternNode.TheVariants.{Basic, Group, Union, Graph, EachGraph, Values, rolls-Basic, rolls-Group, rolls-Union, rolls-Graph, rolls-EachGraph, rolls-Values}
use Rattle.qs_algebra_patterns.specs.inner.Basic.{occurs}
use Rattle.qs_algebra.specs.inner.Certain.{is_column, is_set, is_certain, is_certain_step, is_certain_level, is_certain_step_level}
use Rattle.qs_algebra.specs.inner.Possible.{is_possible, is_possible_step, is_possible_level, is_possible_step_level}

any_map : (f : PatternNode → ℕ → Bool) (v : ℕ) (parts : List PatternNode) → list_any (λ (part : ℕ → Bool). part v) (map f parts) ≡ list_any (λ part. f part v) parts
any_map f v [] = refl
any_map f v (p ∷ parts) = ap (λ b. f p v || b) (any_map f v parts)

all_map : (f : PatternNode → ℕ → Bool) (v : ℕ) (parts : List PatternNode) → list_all (λ (part : ℕ → Bool). part v) (map f parts) ≡ list_all (λ part. f part v) parts
all_map f v [] = refl
all_map f v (p ∷ parts) = ap (λ b. f p v && b) (all_map f v parts)

any_steps : (f : Step → ℕ → Bool) (v : ℕ) (steps : List Step) → list_any (λ (one : ℕ → Bool). one v) (map f steps) ≡ list_any (λ s. f s v) steps
any_steps f v [] = refl
any_steps f v (s ∷ steps) = ap (λ b. f s v || b) (any_steps f v steps)

module _ (width v : ℕ) where
  pub certain_basic : (b : BasicPattern) → is_certain width (Basic b) v ≡ (nat_lt v width && occurs b v)
  certain_basic b =
      ap (λ p. is_certain width p v) (sym (rolls-Basic b)) ∙ (ap (λ (f : ℕ → Bool). f v) (fold-roll-PatternNode (ℕ → Bool) (ℕ → Bool) (is_certain_level width) is_certain_step_level (level.Basic b)))

  pub certain_group : (steps : List Step) (conditions : List Expr) → is_certain width (Group steps conditions) v ≡ list_any (λ s. is_certain_step width s v) steps
  certain_group steps conditions =
      ap (λ p. is_certain width p v) (sym (rolls-Group steps conditions)) ∙ (ap (λ (f : ℕ → Bool). f v) (fold-roll-PatternNode (ℕ → Bool) (ℕ → Bool) (is_certain_level width) is_certain_step_level (level.Group steps conditions)) ∙ any_steps (is_certain_step width) v steps)

  pub certain_union : (parts : List PatternNode) → is_certain width (Union parts) v ≡ list_all (λ part. is_certain width part v) parts
  certain_union parts =
      ap (λ p. is_certain width p v) (sym (rolls-Union parts)) ∙ (ap (λ (f : ℕ → Bool). f v) (fold-roll-PatternNode (ℕ → Bool) (ℕ → Bool) (is_certain_level width) is_certain_step_level (level.Union parts)) ∙ all_map (is_certain width) v parts)

  pub certain_graph : (name : Term) (part : PatternNode) → is_certain width (Graph name part) v ≡ is_certain width part v
  certain_graph name part =
      ap (λ p. is_certain width p v) (sym (rolls-Graph name part)) ∙ (ap (λ (f : ℕ → Bool). f v) (fold-roll-PatternNode (ℕ → Bool) (ℕ → Bool) (is_certain_level width) is_certain_step_level (level.Graph name part)))

  pub certain_each_graph : (w : ℕ) (part : PatternNode) → is_certain width (EachGraph w part) v ≡ (nat_lt v width && w == v || is_certain width part v)
  certain_each_graph w part =
      ap (λ p. is_certain width p v) (sym (rolls-EachGraph w part)) ∙ (ap (λ (f : ℕ → Bool). f v) (fold-roll-PatternNode (ℕ → Bool) (ℕ → Bool) (is_certain_level width) is_certain_step_level (level.EachGraph w part)))

  pub certain_values : (table : Table) → is_certain width (Values table) v ≡ (nat_lt v width && (is_column table v && is_set width table v))
  certain_values table =
      ap (λ p. is_certain width p v) (sym (rolls-Values table)) ∙ (ap (λ (f : ℕ → Bool). f v) (fold-roll-PatternNode (ℕ → Bool) (ℕ → Bool) (is_certain_level width) is_certain_step_level (level.Values table)))

  pub certain_join : (part : PatternNode) → is_certain_step width (Join part) v ≡ is_certain width part v
  certain_join part = ap (λ s. is_certain_step width s v) (sym (rolls-Join part)) ∙ ap (λ (f : ℕ → Bool). f v) (fold-roll-Step (ℕ → Bool) (ℕ → Bool) (is_certain_level width) is_certain_step_level (level.Join part))

  pub certain_left_join : (part : PatternNode) (conditions : List Expr) → is_certain_step width (LeftJoin part conditions) v ≡ false
  certain_left_join part conditions = ap (λ s. is_certain_step width s v) (sym (rolls-LeftJoin part conditions)) ∙ ap (λ (f : ℕ → Bool). f v) (fold-roll-Step (ℕ → Bool) (ℕ → Bool) (is_certain_level width) is_certain_step_level (level.LeftJoin part conditions))

  pub certain_minus : (part : PatternNode) → is_certain_step width (Minus part) v ≡ false
  certain_minus part = ap (λ s. is_certain_step width s v) (sym (rolls-Minus part)) ∙ ap (λ (f : ℕ → Bool). f v) (fold-roll-Step (ℕ → Bool) (ℕ → Bool) (is_certain_level width) is_certain_step_level (level.Minus part))

  pub certain_extend : (w : ℕ) (e : Expr) → is_certain_step width (Extend w e) v ≡ false
  certain_extend w e = ap (λ s. is_certain_step width s v) (sym (rolls-Extend w e)) ∙ ap (λ (f : ℕ → Bool). f v) (fold-roll-Step (ℕ → Bool) (ℕ → Bool) (is_certain_level width) is_certain_step_level (level.Extend w e))

  pub possible_basic : (b : BasicPattern) → is_possible width (Basic b) v ≡ (nat_lt v width && occurs b v)
  possible_basic b =
      ap (λ p. is_possible width p v) (sym (rolls-Basic b)) ∙ (ap (λ (f : ℕ → Bool). f v) (fold-roll-PatternNode (ℕ → Bool) (ℕ → Bool) (is_possible_level width) is_possible_step_level (level.Basic b)))

  pub possible_group : (steps : List Step) (conditions : List Expr) → is_possible width (Group steps conditions) v ≡ list_any (λ s. is_possible_step width s v) steps
  possible_group steps conditions =
      ap (λ p. is_possible width p v) (sym (rolls-Group steps conditions)) ∙ (ap (λ (f : ℕ → Bool). f v) (fold-roll-PatternNode (ℕ → Bool) (ℕ → Bool) (is_possible_level width) is_possible_step_level (level.Group steps conditions)) ∙ any_steps (is_possible_step width) v steps)

  pub possible_union : (parts : List PatternNode) → is_possible width (Union parts) v ≡ list_any (λ part. is_possible width part v) parts
  possible_union parts =
      ap (λ p. is_possible width p v) (sym (rolls-Union parts)) ∙ (ap (λ (f : ℕ → Bool). f v) (fold-roll-PatternNode (ℕ → Bool) (ℕ → Bool) (is_possible_level width) is_possible_step_level (level.Union parts)) ∙ any_map (is_possible width) v parts)

  pub possible_graph : (name : Term) (part : PatternNode) → is_possible width (Graph name part) v ≡ is_possible width part v
  possible_graph name part =
      ap (λ p. is_possible width p v) (sym (rolls-Graph name part)) ∙ (ap (λ (f : ℕ → Bool). f v) (fold-roll-PatternNode (ℕ → Bool) (ℕ → Bool) (is_possible_level width) is_possible_step_level (level.Graph name part)))

  pub possible_each_graph : (w : ℕ) (part : PatternNode) → is_possible width (EachGraph w part) v ≡ (nat_lt v width && w == v || is_possible width part v)
  possible_each_graph w part =
      ap (λ p. is_possible width p v) (sym (rolls-EachGraph w part)) ∙ (ap (λ (f : ℕ → Bool). f v) (fold-roll-PatternNode (ℕ → Bool) (ℕ → Bool) (is_possible_level width) is_possible_step_level (level.EachGraph w part)))

  pub possible_values : (table : Table) → is_possible width (Values table) v ≡ (nat_lt v width && is_column table v)
  possible_values table =
      ap (λ p. is_possible width p v) (sym (rolls-Values table)) ∙ (ap (λ (f : ℕ → Bool). f v) (fold-roll-PatternNode (ℕ → Bool) (ℕ → Bool) (is_possible_level width) is_possible_step_level (level.Values table)))

  pub possible_join : (part : PatternNode) → is_possible_step width (Join part) v ≡ is_possible width part v
  possible_join part = ap (λ s. is_possible_step width s v) (sym (rolls-Join part)) ∙ ap (λ (f : ℕ → Bool). f v) (fold-roll-Step (ℕ → Bool) (ℕ → Bool) (is_possible_level width) is_possible_step_level (level.Join part))

  pub possible_left_join : (part : PatternNode) (conditions : List Expr) → is_possible_step width (LeftJoin part conditions) v ≡ is_possible width part v
  possible_left_join part conditions = ap (λ s. is_possible_step width s v) (sym (rolls-LeftJoin part conditions)) ∙ ap (λ (f : ℕ → Bool). f v) (fold-roll-Step (ℕ → Bool) (ℕ → Bool) (is_possible_level width) is_possible_step_level (level.LeftJoin part conditions))

  pub possible_minus : (part : PatternNode) → is_possible_step width (Minus part) v ≡ false
  possible_minus part = ap (λ s. is_possible_step width s v) (sym (rolls-Minus part)) ∙ ap (λ (f : ℕ → Bool). f v) (fold-roll-Step (ℕ → Bool) (ℕ → Bool) (is_possible_level width) is_possible_step_level (level.Minus part))

  pub possible_extend : (w : ℕ) (e : Expr) → is_possible_step width (Extend w e) v ≡ (w == v)
  possible_extend w e = ap (λ s. is_possible_step width s v) (sym (rolls-Extend w e)) ∙ ap (λ (f : ℕ → Bool). f v) (fold-roll-Step (ℕ → Bool) (ℕ → Bool) (is_possible_level width) is_possible_step_level (level.Extend w e))
