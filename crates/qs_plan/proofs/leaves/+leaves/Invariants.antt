use Rattle.std.proofs.Common.{take}
use Rattle.std.specs.List.{AllByRecursion}
use Rattle.qs_plan.specs.inner.Reads.{LeaveAll}
use Rattle.qs_plan.proofs.leaves.+leaves.Given as goal

abbrev pub invariant-leave_all-loop-stage : goal.invariant-leave_all-loop-stage
invariant-leave_all-loop-stage l = LeaveAll l.variable (take l.stage-index l.stages)

abbrev pub invariant-leave_branches-loop-branch : goal.invariant-leave_branches-loop-branch
invariant-leave_branches-loop-branch l = AllByRecursion (λ g. LeaveAll l.variable g.stages) (take l.branch-index l.branches)
