use Rattle.std.proofs.Common.{◌≡◌, ◌-◌, length, drop}
use Rattle.qs_ops_tables.specs.inner.Tables.{partners}
use Rattle.qs_ops_tables.proofs.kept.KeptTable.partner_from.Given as goal

abbrev pub invariant-loop-other : goal.invariant-loop-other
invariant-loop-other l = partners (drop l.at l.rows) l.row ≡ partners (drop l.place l.rows) l.row

abbrev pub decreases-loop-other : goal.decreases-loop-other
decreases-loop-other l = length l.rows - l.place
