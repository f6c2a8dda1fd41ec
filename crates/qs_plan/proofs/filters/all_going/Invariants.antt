use Rattle.std.proofs.Common.{◌≡◌, map, take}
use Rattle.std.specs.List.{AllByRecursion}
use Rattle.qs_plan.specs.inner.Places.{FirmAt}
use Rattle.qs_plan.proofs.filters.all_going.Given as goal

abbrev pub invariant-loop-condition : goal.invariant-loop-condition
invariant-loop-condition l = (map (λ g. g.condition) l.all ≡ take l.condition-index l.conditions) × AllByRecursion (FirmAt l.size l.given l.stages) l.all
