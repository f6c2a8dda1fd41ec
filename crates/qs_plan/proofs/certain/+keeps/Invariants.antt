use Rattle.std.proofs.Common.{take}
use Rattle.std.specs.List.{AllByRecursion}
use Rattle.qs_plan.specs.inner.Certain.{Keeps}
use Rattle.qs_plan.proofs.certain.+keeps.Given as goal

abbrev pub invariant-keep_all-loop-stage : goal.invariant-keep_all-loop-stage
invariant-keep_all-loop-stage l = AllByRecursion (Keeps l.variable) (take l.stage-index l.stages)

abbrev pub invariant-keep_branches-loop-branch : goal.invariant-keep_branches-loop-branch
invariant-keep_branches-loop-branch l = AllByRecursion (λ g. AllByRecursion (Keeps l.variable) g.stages) (take l.branch-index l.branches)
