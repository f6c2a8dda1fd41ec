-- Rows by their cells (SPARQL 1.1 Query, 18.3).
use Rattle.std.specs.Prelude.{◌≡◌, ℕ, zero, suc, slice_set, take, Bool, true, ◌&&◌, List, [], ◌∷◌}
use Rattle.std.specs.Prelude.{Option, None, Some}
use Rattle.qs_expr.specs.declared.cell.Cell.{Cell}
use Rattle.qs_terms.specs.declared.term.Term.{Term}
use Rattle.qs_algebra_solutions.specs.Solution.{compatible, merge}
use Rattle.qs_expr.specs.inner.Cell.{Cells, denoted, denoted_if, row_solution, same_cell, FitsCell}
use Rattle.qs_expr.specs.inner.Cell.{FitsIf, FitsRow}
use Rattle.qs_expr.specs.inner.Scratch.{IsTable}

-- n variables, none of them bound
abbrev pub no_cells : ℕ → Cells
no_cells zero = []
no_cells (suc n) = None ∷ no_cells n

-- the same cell, if both are bound
abbrev pub agree : Option Cell → Option Cell → Bool
agree None y = true
agree (Some a) None = true
agree (Some a) (Some b) = same_cell a b

-- each variable that is bound in both has the same cell
abbrev pub compatible_cells : Cells → Cells → Bool
compatible_cells [] b = true
compatible_cells (x ∷ a) [] = true
compatible_cells (x ∷ a) (y ∷ b) = agree x y && compatible_cells a b

-- the first cell where there is one, and else the second
abbrev pub first_cell : Option Cell → Option Cell → Option Cell
first_cell None y = y
first_cell (Some a) y = Some a

-- the cells of both
abbrev pub merged_cells : Cells → Cells → Cells
merged_cells [] b = b
merged_cells (x ∷ a) [] = x ∷ a
merged_cells (x ∷ a) (y ∷ b) = first_cell x y ∷ merged_cells a b

-- whether rows that fit a dictionary and its table are compatible, as the algebra has it of their
-- solutions
abbrev pub TellsCompatible : Cells → Cells → Bool → Type 0
TellsCompatible a b result =
    (known table : List Term) → IsTable known table → FitsRow known table a → FitsRow known table b
    → result ≡ compatible (row_solution known table a) (row_solution known table b)

-- the row's solution is that of both merged, as the algebra has it
abbrev pub MergesSolutions : Cells → Cells → Cells → Type 0
MergesSolutions a b m =
    (known table : List Term) → FitsRow known table a → row_solution known table m
    ≡ merge (row_solution known table a) (row_solution known table b)

-- the row fits where both fit
abbrev pub FitsAsBoth : Cells → Cells → Cells → Type 0
FitsAsBoth a b m = (known table : List Term) → FitsRow known table a → FitsRow known table b
    → FitsRow known table m

-- the new row's solution has the cell's term at the variable
abbrev pub BindsTerm : Cells → ℕ → Cell → Cells → Type 0
BindsTerm old v c new =
    (known table : List Term) → row_solution known table new ≡ slice_set
    (row_solution known table old) v (denoted known table c)

-- the new row fits where the old one and the cell do
abbrev pub FitsWith : Cells → Cell → Cells → Type 0
FitsWith old c new = (known table : List Term) → FitsRow known table old → FitsCell known table c
    → FitsRow known table new

-- the new row's solution has the cell's term at the variable, or none where there is no cell
abbrev pub BindsTermIf : Cells → ℕ → Option Cell → Cells → Type 0
BindsTermIf old v x new =
    (known table : List Term) → row_solution known table new ≡ slice_set
    (row_solution known table old) v (denoted_if known table x)

-- the new row fits where the old one and the cell, if there is one, do
abbrev pub FitsWithIf : Cells → Option Cell → Cells → Type 0
FitsWithIf old x new = (known table : List Term) → FitsRow known table old → FitsIf known table x
    → FitsRow known table new

-- the new row's solution has the first terms of the old one's
abbrev pub HasFront : ℕ → Cells → Cells → Type 0
HasFront width old new = (known table : List Term) → row_solution known table new ≡ take width
    (row_solution known table old)

-- the new row fits where the old one does
abbrev pub FitsFront : Cells → Cells → Type 0
FitsFront old new = (known table : List Term) → FitsRow known table old → FitsRow known table new
