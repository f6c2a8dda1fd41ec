use Rattle.std.proofs.Common.{◌≡◌, drop, take}
use Rattle.qs_ops_tables.specs.inner.Tables.{excludes_cells}
use Rattle.qs_ops_tables.specs.inner.Excluding.{excludes_from}
use Rattle.qs_ops_tables.proofs.excluded.excludes.Given as goal

abbrev pub invariant-loop-variable : goal.invariant-loop-variable
invariant-loop-variable l =
    excludes_cells (take l.width l.row) l.other ≡ excludes_from l.shared (drop l.variable (take l.width l.row)) (drop l.variable l.other)
