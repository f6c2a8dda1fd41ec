use Rattle.std.proofs.Common.{take}
use Rattle.std.specs.List.{AllByRecursion}
use Rattle.qs_plan.specs.inner.Fixes.{StepKeeps}
use Rattle.qs_plan.proofs.fixes.steps_keep.Given as goal

abbrev pub invariant-loop-one : goal.invariant-loop-one
invariant-loop-one l = AllByRecursion (StepKeeps l.variable) (take l.one-index l.steps)
