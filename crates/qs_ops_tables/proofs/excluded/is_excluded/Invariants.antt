use Rattle.std.proofs.Common.{◌≡◌, ◌-◌, length, drop, take}
use Rattle.std.specs.List.{list_any}
use Rattle.qs_ops_tables.specs.inner.Tables.{excludes_cells}
use Rattle.qs_ops_tables.proofs.excluded.is_excluded.Given as goal

abbrev pub invariant-loop-other : goal.invariant-loop-other
invariant-loop-other l = list_any (excludes_cells (take l.width l.row)) l.rows ≡ list_any (excludes_cells (take l.width l.row)) (drop l.at l.rows)

abbrev pub decreases-loop-other : goal.decreases-loop-other
decreases-loop-other l = length l.rows - l.at
