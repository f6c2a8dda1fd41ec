use Rattle.std.proofs.Common.{take}
use Rattle.std.specs.List.{AllByRecursion}
use Rattle.qs_plan.specs.inner.Fixes.{SettledBy}
use Rattle.qs_plan.proofs.fixes.are_settled.Given as goal

abbrev pub invariant-loop-condition : goal.invariant-loop-condition
invariant-loop-condition l = AllByRecursion (SettledBy l.size l.stages) (take l.condition-index l.conditions)
