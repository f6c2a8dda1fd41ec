-- The rows that a source makes of a row, and the solutions that they denote.
use Rattle.std.specs.Prelude.{List, map, Option, Result, IfOk}
use Rattle.std.specs.Iterator.{YieldsFirst}
use Rattle.std.specs.List.{AllByRecursion}
use Rattle.qs_terms.specs.Bag.{SameBag}
use Rattle.qs_terms.specs.declared.term.Term.{Term}
use Rattle.qs_algebra_solutions.specs.Solution.{Solution}
use Rattle.qs_expr.specs.inner.Cell.{Cells, row_solution, FitsRow}
use Rattle.qs_expr.specs.inner.Scratch.{IsTable}

-- the rows denote the solutions that f makes of the row's solution, in any order, and fit
pub record AreMade (known table : List Term) (f : Solution → List Solution) (row : Cells)
    (rows : List Cells) : Type 0 where
  pub same : SameBag (map (row_solution known table) rows) (f (row_solution known table row))
  pub fit : AllByRecursion (FitsRow known table) rows

-- they do, by each scratch table that the row fits
abbrev pub Makes : List Term → (Solution → List Solution) → Cells → List Cells → Type 0
Makes known f row rows = (table : List Term) → IsTable known table → FitsRow known table row
    → AreMade known table f row rows

-- the first of the rows that were still to come, and the others are to come; none where there were
-- none
abbrev pub GivesFirst : {E : Type 0} → List Cells → Result (Option Cells) E → List Cells → Type 0
GivesFirst old answer new =
    IfOk answer (λ row. YieldsFirst (λ (rows : List Cells). rows) old row new)
