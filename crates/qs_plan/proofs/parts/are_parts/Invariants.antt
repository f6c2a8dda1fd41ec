use Rattle.std.proofs.Common.{take}
use Rattle.std.specs.List.{AllByRecursion}
use Rattle.qs_plan.specs.inner.Parts.{IsPart}
use Rattle.qs_plan.proofs.parts.are_parts.Given as goal

abbrev pub invariant-loop-stage : goal.invariant-loop-stage
invariant-loop-stage l = AllByRecursion (IsPart l.width) (take l.stage-index l.stages)
