use Rattle.std.proofs.Common.{◌≡◌, drop, take}
use Rattle.qs_ops_tables.specs.inner.Keys.{hash_from}
use Rattle.qs_ops_tables.proofs.index.hash_of.Given as goal

abbrev pub invariant-loop-variable : goal.invariant-loop-variable
invariant-loop-variable l = hash_from 0 l.key (take l.width l.row) ≡ hash_from l.hash (drop l.variable-index l.key) (take l.width l.row)
