-- What all merges of a row have in common.
use Rattle.std.proofs.Common.{◌≡◌, ℕ, zero, suc, List, [], ◌∷◌, map, Option, Some, None, IfSome, sym}
use Rattle.std.specs.List.{AllByRecursion}
use Rattle.qs_expr.specs.declared.cell.Cell.{Cell}
use Rattle.qs_expr.specs.inner.Cell.{Cells, cell_at}
use Rattle.qs_expr.specs.inner.Row.{first_cell, merged_cells}
use Rattle.qs_ops_tables.specs.inner.Tables.{merges_cells, partners}

first_stays : (x y : Option Cell) (c : Cell) → x ≡ Some c → first_cell x y ≡ Some c
first_stays None y c e = let f : None ≡ Some c = e in cc
first_stays (Some d) y c e = e

merged_has : (m n : Cells) (v : ℕ) (c : Cell) → cell_at m v ≡ Some c → cell_at (merged_cells m n) v ≡ Some c
merged_has [] n v c e = let f : None ≡ Some c = e in cc
merged_has (x ∷ m) [] v c e = e
merged_has (x ∷ m) (y ∷ n) zero c e = first_stays x y c e
merged_has (x ∷ m) (y ∷ n) (suc v) c e = merged_has m n v c e

all_have : (m : Cells) (v : ℕ) (c : Cell) → cell_at m v ≡ Some c → (rows : List Cells) → AllByRecursion (λ (n : Cells). cell_at n v ≡ Some c) (map (merged_cells m) rows)
all_have m v c e [] = tt
all_have m v c e (n ∷ rows) = (merged_has m n v c e, all_have m v c e rows)

pub merges_have : (m : Cells) (v : ℕ) (rows : List Cells) (o : Option Cell) → o ≡ cell_at m v → IfSome o (λ c. AllByRecursion (λ (n : Cells). cell_at n v ≡ Some c) (merges_cells rows m))
merges_have m v rows None e = tt
merges_have m v rows (Some c) e = all_have m v c (sym e) (partners rows m)
