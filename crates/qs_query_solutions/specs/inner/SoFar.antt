-- Rows of cells that are kept of the solutions that were seen.
use Rattle.std.specs.Prelude.{ℕ, ◌-◌, List, Option, Some, None}
use Rattle.std.specs.List.{All}
use Rattle.qs_terms.specs.declared.term.Term.{Term}
use Rattle.qs_algebra_solutions.specs.Solution.{Solution}
use Rattle.qs_expr.specs.inner.Cell.{Cells, row_solution, FitsRow}
use Rattle.qs_query_order.specs.inner.Keyed.{AreKeptIf, IsKeyed, solutions_of}
use Rattle.qs_query_order.specs.declared.condition.OrderCondition.{OrderCondition}
use Rattle.qs_query_order.specs.declared.keyed.KeyedRow.{KeyedRow}

-- each cell of the rows denotes a term
abbrev pub Fit : List Term → List Term → List (KeyedRow Cells) → Type 0
Fit known table kept = All (λ k. FitsRow known table k.row) kept

-- these are kept of the solutions that were seen, with their keys
pub record AreSoFar (known table : List Term) (conditions : List OrderCondition) (count : Option ℕ)
    (seen : List Solution) (kept : List (KeyedRow Cells)) : Type 0 where
  pub fits : Fit known table kept
  pub keyed : All (IsKeyed (row_solution known table) conditions) kept
  pub are_kept : AreKeptIf conditions count seen (solutions_of (row_solution known table) kept)

abbrev pub one_less : Option ℕ → Option ℕ
one_less None = None
one_less (Some n) = Some (n - 1)
