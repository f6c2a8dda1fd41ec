use Rattle.std.proofs.Common.{◌≡◌, drop}
use Rattle.qs_algebra_solutions.specs.Solution.{bind_all, binding}
use Rattle.qs_algebra_solutions.proofs.solution.Row.binding.Given as goal

abbrev pub invariant-loop-at : goal.invariant-loop-at
invariant-loop-at l = bind_all l.row (drop l.at l.variables) (drop l.at l.terms) ≡ binding l.width l.variables l.terms
