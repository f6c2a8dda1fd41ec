-- What patterns and steps mean, by their variants.
use Rattle.std.proofs.Common.{◌≡◌, ℕ, List, [], ◌∷◌, map, refl, ap, sym, ◌∙◌}
use Rattle.std.specs.List.{flat_map, fold}
use Rattle.std.proofs.lemmas.List.Folds.{flat_map-map}
use Rattle.qs_terms.specs.Dataset.{names_of}
use Rattle.qs_terms.specs.Statement.{Statement}
use Rattle.qs_terms.specs.declared.term.Term.{Term}
use Rattle.qs_algebra_solutions.specs.Solution.{Solution, unbound}
use Rattle.qs_algebra_solutions.specs.Operators as of
use Rattle.qs_expr_meaning.specs.declared.expr.Expr.{Expr}
use Rattle.qs_algebra_patterns.specs.declared.pattern.BasicPattern.{BasicPattern}
use Rattle.qs_algebra_patterns.specs.declared.table.Table.{Table}
use Rattle.qs_algebra_patterns.specs.declared.pattern.Step.{Step, fold-roll-Step}
use Rattle.qs_algebra_patterns.specs.declared.pattern.Step.TheVariants.{Join, LeftJoin, Minus, Extend, rolls-Join, rolls-LeftJoin, rolls-Minus, rolls-Extend}
use Rattle.qs_algebra_patterns.specs.declared.pattern.PatternNode.{PatternNode, fold-roll-PatternNode}
use Rattle.qs_algebra_patterns.specs.declared.pattern.PatternNode.TheOpen as level
use Rattle.qs_algebra_patterns.specs.declared.pattern.PatternNode.TheVariants.{Basic, Group, Union, Graph, EachGraph, Values, rolls-Basic, rolls-Group, rolls-Union, rolls-Graph, rolls-EachGraph, rolls-Values}
use Rattle.qs_algebra_patterns.specs.Basic.{Graph as Triples, basic}
use Rattle.qs_algebra_patterns.specs.Eval.{Found, Stepped, eval, eval_level, step_level, all_hold, extended, in_named, in_each}
use Rattle.qs_algebra_patterns.specs.inner.Eval.{kept, rows_of, step}

module _ (width : ℕ) (quads : List Statement) (graph : Triples) where
  pub eval_basic : (b : BasicPattern) → eval width quads (Basic b) graph ≡ basic width b graph
  eval_basic b =
      ap (λ p. eval width quads p graph) (sym (rolls-Basic b)) ∙ ap (λ (f : Found). f graph) (fold-roll-PatternNode Found Stepped (eval_level width quads) step_level (level.Basic b))

  steps_from : (rows : List Solution) (steps : List Step) → fold (λ left (one : Stepped). one graph left) rows (map (λ s. step width quads s) steps) ≡ fold (λ left s. step width quads s graph left) rows steps
  steps_from rows [] = refl
  steps_from rows (s ∷ steps) = steps_from (step width quads s graph rows) steps

  pub eval_group : (steps : List Step) (conditions : List Expr) → eval width quads (Group steps conditions) graph ≡ kept conditions (fold (λ left s. step width quads s graph left) (unbound width ∷ []) steps)
  eval_group steps conditions =
      ap (λ p. eval width quads p graph) (sym (rolls-Group steps conditions))
      ∙ (ap (λ (f : Found). f graph) (fold-roll-PatternNode Found Stepped (eval_level width quads) step_level (level.Group steps conditions))
      ∙ ap (kept conditions) (steps_from (unbound width ∷ []) steps))

  pub eval_union : (parts : List PatternNode) → eval width quads (Union parts) graph ≡ flat_map (λ part. eval width quads part graph) parts
  eval_union parts =
      ap (λ p. eval width quads p graph) (sym (rolls-Union parts))
      ∙ (ap (λ (f : Found). f graph) (fold-roll-PatternNode Found Stepped (eval_level width quads) step_level (level.Union parts))
      ∙ flat_map-map (λ part. part graph) (eval width quads) parts)

  pub eval_graph : (name : Term) (part : PatternNode) → eval width quads (Graph name part) graph ≡ in_named quads name (eval width quads part)
  eval_graph name part =
      ap (λ p. eval width quads p graph) (sym (rolls-Graph name part)) ∙ ap (λ (f : Found). f graph) (fold-roll-PatternNode Found Stepped (eval_level width quads) step_level (level.Graph name part))

  pub eval_each_graph : (v : ℕ) (part : PatternNode) → eval width quads (EachGraph v part) graph ≡ in_each width quads v (eval width quads part) (names_of quads)
  eval_each_graph v part =
      ap (λ p. eval width quads p graph) (sym (rolls-EachGraph v part)) ∙ ap (λ (f : Found). f graph) (fold-roll-PatternNode Found Stepped (eval_level width quads) step_level (level.EachGraph v part))

  pub eval_values : (table : Table) → eval width quads (Values table) graph ≡ rows_of width table
  eval_values table =
      ap (λ p. eval width quads p graph) (sym (rolls-Values table)) ∙ ap (λ (f : Found). f graph) (fold-roll-PatternNode Found Stepped (eval_level width quads) step_level (level.Values table))

  pub step_join : (part : PatternNode) (left : List Solution) → step width quads (Join part) graph left ≡ of.join left (eval width quads part graph)
  step_join part left =
      ap (λ s. step width quads s graph left) (sym (rolls-Join part)) ∙ ap (λ (f : Stepped). f graph left) (fold-roll-Step Found Stepped (eval_level width quads) step_level (level.Join part))

  pub step_left_join : (part : PatternNode) (conditions : List Expr) (left : List Solution) → step width quads (LeftJoin part conditions) graph left ≡ of.left_join (all_hold conditions) left (eval width quads part graph)
  step_left_join part conditions left =
      ap (λ s. step width quads s graph left) (sym (rolls-LeftJoin part conditions)) ∙ ap (λ (f : Stepped). f graph left) (fold-roll-Step Found Stepped (eval_level width quads) step_level (level.LeftJoin part conditions))

  pub step_minus : (part : PatternNode) (left : List Solution) → step width quads (Minus part) graph left ≡ of.minus left (eval width quads part graph)
  step_minus part left =
      ap (λ s. step width quads s graph left) (sym (rolls-Minus part)) ∙ ap (λ (f : Stepped). f graph left) (fold-roll-Step Found Stepped (eval_level width quads) step_level (level.Minus part))

  pub step_extend : (v : ℕ) (e : Expr) (left : List Solution) → step width quads (Extend v e) graph left ≡ map (extended v e) left
  step_extend v e left =
      ap (λ s. step width quads s graph left) (sym (rolls-Extend v e)) ∙ ap (λ (f : Stepped). f graph left) (fold-roll-Step Found Stepped (eval_level width quads) step_level (level.Extend v e))
