use Rattle.std.proofs.Common.{take}
use Rattle.std.specs.List.{AllByRecursion}
use Rattle.qs_ops_scans.specs.inner.Skipped.{Tells}
use Rattle.qs_ops_scans.proofs.skip.all_tell.Given as goal

abbrev pub invariant-loop-column : goal.invariant-loop-column
invariant-loop-column l = AllByRecursion (Tells l.acts l.own l.given l.row) (take l.column-index l.columns)
