use Rattle.std.proofs.Common.{take}
use Rattle.std.specs.List.{AllByRecursion}
use Rattle.qs_plan.specs.inner.Reads.{LeaveAll}
use Rattle.qs_plan.proofs.feed.all_leave.Given as goal

abbrev pub invariant-loop-at : goal.invariant-loop-at
invariant-loop-at l = AllByRecursion (λ v. LeaveAll v l.stages) (take l.at l.variables)
