-- Definitions over those of `Eval`, for proofs and the layers between.
use Rattle.std.specs.Prelude.{ℕ, List, map, Option, Some, slice_set}
use Rattle.std.specs.List.{filter}
use Rattle.std.specs.Option.{option_map_or}
use Rattle.qs_terms.specs.declared.term.Term.{Term}
use Rattle.qs_algebra_solutions.specs.Solution.{Solution, binding}
use Rattle.qs_expr_meaning.specs.declared.expr.Expr.{Expr}
use Rattle.qs_algebra_patterns.specs.declared.table.Table.{Table}
use Rattle.qs_terms.specs.Statement.{Statement}
use Rattle.qs_algebra_patterns.specs.declared.pattern.Step.{Step, fold-Step}
use Rattle.qs_algebra_patterns.specs.Eval.{Found, Stepped, all_hold, eval_level, step_level}

-- what a step makes of the solutions before it
abbrev pub step : ℕ → List Statement → Step → Stepped
step width quads = fold-Step Found Stepped (eval_level width quads) step_level

-- the solutions in which all conditions hold
abbrev pub kept : List Expr → List Solution → List Solution
kept conditions = filter (all_hold conditions)

-- the solution with the variable bound to the value, or as it is where there is an error
abbrev pub bound_to : Solution → ℕ → Option Term → Solution
bound_to m v value = option_map_or (λ t. slice_set m v (Some t)) value m

-- a solution for each row
abbrev pub rows_of : ℕ → Table → List Solution
rows_of width table = map (binding width table.variables) table.rows
