-- Cells, and the terms and solutions that they denote (SPARQL 1.1 Query, 18.1.8).
use Rattle.std.specs.Prelude.{◌≡◌, ℕ, Bool, false, ◌==◌, List, Option, None, Some, map, slice_get}
use Rattle.std.specs.Prelude.{slice_index_or}
use Rattle.std.specs.Bool.{IsTrue}
use Rattle.std.specs.Option.{is_some}
use Rattle.qs_terms.specs.declared.term.Term.{Term}
use Rattle.qs_dict.specs.inner.Dict.{term_at}
use Rattle.qs_algebra_solutions.specs.Solution.{Solution}
use Rattle.qs_expr.specs.declared.cell.Cell.{Cell}
use Rattle.qs_expr.specs.declared.cell.Cell.TheVariants.{Known, Scratch}

-- the same number, or the same place
abbrev pub same_cell : Cell → Cell → Bool
same_cell (Known m) (Known n) = m == n
same_cell (Known m) (Scratch k) = false
same_cell (Scratch j) (Known n) = false
same_cell (Scratch j) (Scratch k) = j == k

-- at each variable's number its cell, or none where it is not bound
abbrev pub Cells : Type 0
Cells = List (Option Cell)

-- the cell of a variable
abbrev pub cell_at : Cells → ℕ → Option Cell
cell_at m v = slice_index_or m v None

-- the term of a cell, by the dictionary's numbers and the places of the scratch table
abbrev pub denoted : List Term → List Term → Cell → Option Term
denoted known table (Known n) = term_at known n
denoted known table (Scratch k) = slice_get table k

abbrev pub denoted_if : List Term → List Term → Option Cell → Option Term
denoted_if known table None = None
denoted_if known table (Some c) = denoted known table c

-- the solution that a row denotes; a cell that denotes no term is unbound
abbrev pub row_solution : List Term → List Term → Cells → Solution
row_solution known table m = map (denoted_if known table) m

-- the cell denotes a term
abbrev pub FitsCell : List Term → List Term → Cell → Type 0
FitsCell known table c = IsTrue (is_some (denoted known table c))

-- so does the cell, if there is one
abbrev pub FitsIf : List Term → List Term → Option Cell → Type 0
FitsIf known table x = (c : Cell) → x ≡ Some c → FitsCell known table c

-- each cell of the row denotes a term
pub record FitsRow (known table : List Term) (m : Cells) : Type 0 where
  pub each : (v : ℕ) → FitsIf known table (cell_at m v)
