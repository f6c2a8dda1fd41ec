use Rattle.std.proofs.Common.{◌≡◌, ◌++◌, length, take, drop}
use Rattle.qs_expr.specs.inner.Row.{merged_cells}
use Rattle.qs_expr.specs.inner.Compact.{cells_of}
use Rattle.qs_expr.proofs.compact.filled.Given as goal

abbrev pub invariant-loop-variable : goal.invariant-loop-variable
invariant-loop-variable l = record {
  width : length l.cells.items ≡ length l.fn.cells.items;
  merged : take l.variable (cells_of l.cells.items) ++ merged_cells (drop l.variable (cells_of l.cells.items)) (drop l.variable (cells_of l.others)) ≡ merged_cells (cells_of l.fn.cells.items) (cells_of l.others);
}
