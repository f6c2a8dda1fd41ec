use Rattle.std.proofs.Common.{take, []}
use Rattle.std.specs.List.{AllByRecursion}
use Rattle.qs_plan.specs.inner.Certain.{Binds}
use Rattle.qs_plan.proofs.certain.+binds.Given as goal

abbrev pub invariant-bound_in_each-loop-branch : goal.invariant-bound_in_each-loop-branch
invariant-bound_in_each-loop-branch l = AllByRecursion (λ g. Binds l.size [] l.variable g.stages) (take l.branch-index l.branches)
