use Rattle.std.proofs.Common.{◌++◌, take}
use Rattle.std.specs.List.{AllByRecursion}
use Rattle.qs_plan.specs.inner.Places.{Inside, SameFilters}
use Rattle.qs_plan.proofs.filters.parted.Given as goal

abbrev pub invariant-loop-condition : goal.invariant-loop-condition
invariant-loop-condition l = SameFilters (l.inside ++ l.after) (take l.condition-index l.conditions) × AllByRecursion (Inside l.size l.stages) l.inside
