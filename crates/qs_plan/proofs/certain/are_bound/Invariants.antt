use Rattle.std.proofs.Common.{◌<◌, take, []}
use Rattle.std.specs.List.{AllByRecursion}
use Rattle.qs_plan.specs.inner.Certain.{Binds}
use Rattle.qs_plan.proofs.certain.are_bound.Given as goal

abbrev pub invariant-loop-at : goal.invariant-loop-at
invariant-loop-at l = AllByRecursion (λ v. (v < l.size.width) × Binds l.size [] v l.stages) (take l.at l.variables)
