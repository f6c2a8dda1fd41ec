-- What is left of a chain after its first operands.
use Rattle.std.specs.Prelude.{ℕ, Bool, List, map, drop, Option, Some, None, ℤ, if◌then◌else◌}
use Rattle.std.specs.List.{fold}
use Rattle.qs_algebra_solutions.specs.Solution.{Solution}
use Rattle.qs_expr_meaning.specs.Truth.{any, every}
use Rattle.qs_expr_meaning.specs.Calls.{Value}
use Rattle.qs_expr_meaning.specs.Meaning.{truth, meaning, among, added, multiplied, first_value}
use Rattle.qs_expr_meaning.specs.inner.Meaning.{addend_meaning}
use Rattle.qs_expr_meaning.specs.declared.expr.Expr.{Expr}
use Rattle.qs_expr_meaning.specs.declared.expr.Addend.{Addend}

-- an error, if one was met, or else the truth of no operands
abbrev pub so_far : Bool → Bool → Option Bool
so_far none errs = if errs then None else Some none

abbrev pub any_from : Solution → List Expr → ℕ → Option Bool
any_from m parts at = any (map truth (map (meaning m) (drop at parts)))

abbrev pub every_from : Solution → List Expr → ℕ → Option Bool
every_from m parts at = every (map truth (map (meaning m) (drop at parts)))

abbrev pub among_from : Solution → Value → List Expr → ℕ → Option Bool
among_from m x parts at = among x (map (meaning m) (drop at parts))

abbrev pub first_from : Solution → List Expr → ℕ → Value
first_from m parts at = first_value (map (meaning m) (drop at parts))

abbrev pub sum_from : Solution → Option ℤ → List Addend → ℕ → Option ℤ
sum_from m sum more at = fold added sum (map (addend_meaning m) (drop at more))

abbrev pub product_from : Solution → Option ℤ → List Expr → ℕ → Option ℤ
product_from m product more at = fold multiplied product (map (meaning m) (drop at more))
