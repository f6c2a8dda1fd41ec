use Rattle.std.proofs.Common.{take}
use Rattle.qs_ops_walk.specs.inner.Alike.{KeepsAll}
use Rattle.qs_ops_walk.proofs.alike.keeps_all.Given as goal

abbrev pub invariant-loop-column : goal.invariant-loop-column
invariant-loop-column l = KeepsAll (take l.column-index l.columns) l.stage
