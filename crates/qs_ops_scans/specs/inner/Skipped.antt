-- Rows that are skipped, and what triples tell of the rows that they make.
use Rattle.std.specs.Prelude.{◌≡◌, ℕ, true, List, Option, Some}
use Rattle.std.specs.List.{AllByRecursion}
use Rattle.qs_index.specs.inner.Skipped.{IsSkipped}
use Rattle.qs_store.specs.inner.Triples.{triple_fits}
use Rattle.qs_expr.specs.declared.cell.Cell.{Cell}
use Rattle.qs_expr.specs.declared.cell.Cell.TheVariants.{Known}
use Rattle.qs_expr.specs.inner.Cell.{Cells, cell_at}
use Rattle.qs_ops_scans.specs.declared.opened.Acts.{Acts}
use Rattle.qs_ops_scans.specs.declared.opened.Given.{Given}
use Rattle.qs_ops_scans.specs.inner.Opened.{bound}

-- both are the same cell
pub record SharesCellAt (a b : Option Cell) : Type 0 where
  pub cell : Cell
  pub first : a ≡ Some cell
  pub second : b ≡ Some cell

-- the rows have the same cell at each of these variables
abbrev pub ShareCells : List ℕ → Cells → Cells → Type 0
ShareCells columns row m = AllByRecursion (λ v. SharesCellAt (cell_at row v) (cell_at m v)) columns

-- some rows at the front are skipped, all of which have the row's cells at these variables, and no
-- other one
abbrev pub SkipsRows : List ℕ → Cells → List Cells → List Cells → Type 0
SkipsRows columns row old new = IsSkipped (ShareCells columns row) old new

-- the cell is of this number
pub record IsNumberOf (cell : Option Cell) (number : Option ℕ) : Type 0 where
  pub n : ℕ
  pub known : cell ≡ Some (Known n)
  pub is : number ≡ Some n

-- each triple with the given numbers makes a row that has the row's cell at the variable
abbrev pub Tells : Acts → Cells → Given → Cells → ℕ → Type 0
Tells acts own given row v =
    (x : List ℕ) → triple_fits given.subject given.predicate given.object x ≡ true
    → SharesCellAt (cell_at row v) (cell_at (bound acts x own) v)
