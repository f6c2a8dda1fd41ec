use Rattle.std.proofs.Common.{◌-◌, length}
use Rattle.qs_ops_tables.specs.inner.Keys.{Passes}
use Rattle.qs_ops_tables.proofs.index.row_from.Given as goal

abbrev pub invariant-loop-row : goal.invariant-loop-row
invariant-loop-row l = Passes l.index.key.items l.hash l.rows l.at l.place

abbrev pub decreases-loop-row : goal.decreases-loop-row
decreases-loop-row l = length l.rows - l.place
