use Rattle.std.proofs.Common.{take}
use Rattle.std.specs.List.{AllByRecursion}
use Rattle.qs_plan.specs.inner.Sames.{IsScan}
use Rattle.qs_plan.proofs.order.+scans.Given as goal

abbrev pub invariant-are_scans-loop-stage : goal.invariant-are_scans-loop-stage
invariant-are_scans-loop-stage l = AllByRecursion (IsScan l.register) (take l.stage-index l.stages)

abbrev pub invariant-have_scans-loop-branch : goal.invariant-have_scans-loop-branch
invariant-have_scans-loop-branch l = AllByRecursion (λ g. AllByRecursion (IsScan l.register) g.stages) (take l.branch-index l.branches)
