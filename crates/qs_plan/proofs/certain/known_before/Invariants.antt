use Rattle.std.proofs.Common.{take}
use Rattle.std.specs.List.{AllByRecursion}
use Rattle.qs_plan.specs.inner.Certain.{Binds}
use Rattle.qs_plan.proofs.certain.known_before.Given as goal

abbrev pub invariant-loop-at : goal.invariant-loop-at
invariant-loop-at l = AllByRecursion (λ v. Binds l.size l.given v (take l.place l.stages)) l.known.items
