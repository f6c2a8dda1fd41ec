use Rattle.std.proofs.Common.{◌≡◌, drop}
use Rattle.qs_expr.specs.inner.Row.{compatible_cells}
use Rattle.qs_expr.specs.inner.Compact.{cells_of}
use Rattle.qs_expr.proofs.compact.are_compatible.Given as goal

abbrev pub invariant-loop-variable : goal.invariant-loop-variable
invariant-loop-variable l =
    compatible_cells (cells_of l.cells) (cells_of l.others) ≡ compatible_cells (drop l.variable (cells_of l.cells)) (drop l.variable (cells_of l.others))
