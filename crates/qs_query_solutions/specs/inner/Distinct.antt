-- Distinct rows of cells.
use Rattle.std.specs.Prelude.{◌≡◌, ◌⊎◌, Bool, true, false, ◌&&◌, ℕ, List, [], ◌∷◌, ◌++◌, length}
use Rattle.std.specs.Prelude.{map, Option, Some, None, Vec}
use Rattle.qs_terms.specs.Bag.{SameBag, once}
use Rattle.qs_terms.specs.declared.term.Term.{Term}
use Rattle.qs_algebra_solutions.specs.Solution.{Solution, projected, same_solution}
use Rattle.qs_algebra_solutions.specs.inner.Some.{is_enough}
use Rattle.qs_expr.specs.declared.cell.Cell.{Cell}
use Rattle.qs_expr.specs.declared.cell.Cell.TheVariants as cell
use Rattle.qs_expr.specs.inner.Cell.{Cells, row_solution, same_cell}
use Rattle.qs_query_solutions.specs.declared.distinct_rows.KeyCell.{KeyCell}
use Rattle.qs_query_solutions.specs.declared.distinct_rows.KeyCell.TheVariants.{Unbound, Known}
use Rattle.qs_query_solutions.specs.declared.distinct_rows.KeyCell.TheVariants.{Scratch}

-- the cell, or none
abbrev pub cell_of : KeyCell → Option Cell
cell_of Unbound = None
cell_of (Known n) = Some (cell.Known n)
cell_of (Scratch k) = Some (cell.Scratch k)

abbrev pub cells_of : {Z : Type 0} → Vec KeyCell Z → Cells
cells_of keys = map cell_of keys.items

-- both are none, or the same cell
abbrev pub same_if : Option Cell → Option Cell → Bool
same_if None None = true
same_if None (Some d) = false
same_if (Some c) None = false
same_if (Some c) (Some d) = same_cell c d

-- the same cell, or none, at each place
abbrev pub same_cells : Cells → Cells → Bool
same_cells [] [] = true
same_cells [] (y ∷ b) = false
same_cells (x ∷ a) [] = false
same_cells (x ∷ a) (y ∷ b) = same_if x y && same_cells a b

-- the rows denote the terms of these variables in some of all solutions, each once, and the others
-- are left
pub record AreDistinctOf (known table : List Term) (columns : List ℕ) (all : List Solution)
    (rows : List Cells) (left : List Solution) : Type 0 where
  pub some : List Solution
  pub bag : SameBag all (some ++ left)
  pub are : map (row_solution known table) rows ≡ once same_solution (map (projected columns) some)

-- they do, where these solutions were to come at the start, and those are to come now
abbrev pub IsDistinctWay : List Term → List Term → List ℕ → Option (List Solution) → List Cells
    → Option (List Solution) → Type 0
IsDistinctWay known table columns start rows now =
    (all : List Solution) → start ≡ Some all → (left : List Solution) × (now ≡ Some left)
    × AreDistinctOf known table columns all rows left

-- the rows are those of all solutions, unless they suffice
abbrev pub CollectsDistinct : List Term → List Term → List ℕ → Option ℕ → List Solution → List Cells
    → Type 0
CollectsDistinct known table columns most all rows =
    (left : List Solution) × AreDistinctOf known table columns all rows left
    × ((left ≡ []) ⊎ (is_enough most (length rows) ≡ true))
