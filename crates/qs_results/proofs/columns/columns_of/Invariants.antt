use Rattle.std.proofs.Common.{take}
use Rattle.qs_results.specs.inner.Columns.{AreColumns}
use Rattle.qs_results.proofs.Sorted.{Ascend}
use Rattle.qs_results.proofs.columns.columns_of.Given as goal

-- the columns of the names so far
abbrev pub invariant-loop-at : goal.invariant-loop-at
invariant-loop-at l = Ascend l.columns.entries × AreColumns (take l.at l.vars) l.columns.entries
