-- All solutions of a pattern as rows of cells.
use Rattle.std.specs.Prelude.{◌≡◌, ◌≢◌, ◌<◌, ◌≤◌, ℕ, List, length, map, Ok, Err}
use Rattle.std.specs.List.{All}
use Rattle.qs_terms.specs.Bag.{SameBag}
use Rattle.qs_terms.specs.Outcome.{Outcome}
use Rattle.qs_terms.specs.declared.fault.QFault.TheVariants.{Memory, TooManyRows}
use Rattle.qs_terms.specs.declared.term.Term.{Term}
use Rattle.qs_algebra_solutions.specs.Solution.{Solution}
use Rattle.qs_expr.specs.inner.Cell.{Cells, row_solution, FitsRow}
use Rattle.qs_query_solutions.specs.declared.cell_rows.CellRows.{CellRows}

-- the rows denote all solutions, in some order, and are no more than max_rows
pub record AreAll (max_rows : ℕ) (known table : List Term) (all : List Solution)
    (rows : List Cells) : Type 0 where
  pub same : SameBag (map (row_solution known table) rows) all
  pub few : length rows ≤ max_rows

-- rows whose cells all denote terms, and which denote all solutions; or the fault that these are
-- more than max_rows, or out of memory
abbrev pub AreAllCells : ℕ → List Term → List Solution → Outcome CellRows → Type 0
AreAllCells max_rows known all (Ok found) = All (FitsRow known found.scratch) found.rows.items
    × AreAll max_rows known found.scratch all found.rows.items
AreAllCells max_rows known all (Err f) = f ≢ Memory → (f ≡ TooManyRows) × (max_rows < length all)
