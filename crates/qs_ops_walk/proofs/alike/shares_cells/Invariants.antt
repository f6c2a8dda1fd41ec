use Rattle.std.proofs.Common.{take}
use Rattle.std.specs.List.{AllByRecursion}
use Rattle.qs_ops_walk.specs.inner.Alike.{SharesCell}
use Rattle.qs_ops_walk.proofs.alike.shares_cells.Given as goal

abbrev pub invariant-loop-column : goal.invariant-loop-column
invariant-loop-column l = AllByRecursion (SharesCell l.width l.row l.source) (take l.column-index l.columns)
