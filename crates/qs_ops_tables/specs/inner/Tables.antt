-- Rows that are kept, and what other rows make of them (SPARQL 1.1 Query, 18.5).
use Rattle.std.specs.Prelude.{◌≡◌, ℕ, Bool, false, true, ◌&&◌, ◌||◌, List, [], ◌∷◌, Option, None}
use Rattle.std.specs.Prelude.{Some, map, take}
use Rattle.std.specs.List.{AllByRecursion, filter, list_any}
use Rattle.qs_terms.specs.declared.term.Term.{Term}
use Rattle.qs_algebra_solutions.specs.Operators.{merges, excludes}
use Rattle.qs_expr.specs.declared.cell.Cell.{Cell}
use Rattle.qs_expr.specs.inner.Cell.{Cells, row_solution, FitsRow}
use Rattle.qs_expr.specs.inner.Row.{compatible_cells, merged_cells}
use Rattle.qs_expr.specs.inner.Scratch.{IsTable}

-- rows, and the variables by which they are found
pub record KeptRows : Type 0 where
  pub key : List ℕ
  pub rows : List Cells

-- those of the rows with which m is compatible
abbrev pub partners : List Cells → Cells → List Cells
partners rows m = filter (compatible_cells m) rows

-- m with each of the rows that it is compatible with, in their order
abbrev pub merges_cells : List Cells → Cells → List Cells
merges_cells rows m = map (merged_cells m) (partners rows m)

abbrev pub both_cells : Option Cell → Option Cell → Bool
both_cells None y = false
both_cells (Some x) None = false
both_cells (Some x) (Some y) = true

-- some variable is bound in both
abbrev pub share_cells : Cells → Cells → Bool
share_cells [] b = false
share_cells (x ∷ a) [] = false
share_cells (x ∷ a) (y ∷ b) = both_cells x y || share_cells a b

-- b takes a away: both are compatible and share a bound variable
abbrev pub excludes_cells : Cells → Cells → Bool
excludes_cells a b = compatible_cells a b && share_cells a b

-- each row fits
abbrev pub FitRows : List Term → List Term → List Cells → Type 0
FitRows known table rows = AllByRecursion (FitsRow known table) rows

-- the solutions that the rows denote
abbrev pub row_solutions : List Term → List Term → List Cells → List (List (Option Term))
row_solutions known table rows = map (row_solution known table) rows

-- the merged rows denote the merges of m's solution with those of the rows, as the algebra has it
abbrev pub GivesMerges : List Cells → Cells → List Cells → Type 0
GivesMerges rows m merged =
    (known table : List Term) → IsTable known table → FitRows known table rows
    → FitsRow known table m
    → row_solutions known table merged ≡ merges (row_solutions known table rows)
    (row_solution known table m)

-- the merged rows fit where the rows and m do
abbrev pub FitsMerges : List Cells → Cells → List Cells → Type 0
FitsMerges rows m merged =
    (known table : List Term) → FitRows known table rows → FitsRow known table m
    → FitRows known table merged

-- whether one of the rows takes the solution of m's first `width` variables away, as the algebra
-- has it (Minus)
abbrev pub TellsExcluded : List Cells → ℕ → Cells → Bool → Type 0
TellsExcluded rows width m result =
    (known table : List Term) → IsTable known table → FitRows known table rows
    → FitsRow known table m
    → result ≡ list_any (excludes (take width (row_solution known table m)))
    (row_solutions known table rows)
