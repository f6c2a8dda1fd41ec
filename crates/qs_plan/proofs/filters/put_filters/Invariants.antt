use Rattle.std.proofs.Common.{◌≡◌, ◌++◌, map, take}
use Rattle.qs_plan_meaning.specs.declared.stage.Stage.TheVariants.{Filter}
use Rattle.qs_plan.proofs.filters.put_filters.Given as goal

abbrev pub invariant-loop-condition : goal.invariant-loop-condition
invariant-loop-condition l = l.done ≡ l.fn.done ++ map Filter (take l.condition-index l.conditions)
