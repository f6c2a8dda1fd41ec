use Rattle.std.proofs.Common.{◌≤◌, length, take}
use Rattle.std.specs.List.{AllByRecursion}
use Rattle.qs_plan.specs.inner.Certain.{Steady}
use Rattle.qs_plan.proofs.certain.all_steady_from.Given as goal

abbrev pub invariant-loop-at : goal.invariant-loop-at
invariant-loop-at l = (l.place ≤ length l.stages) × AllByRecursion (λ v. Steady l.size l.given v l.place l.stages) (take l.at l.variables)
