use Rattle.std.proofs.Common.{◌≡◌}
use Rattle.qs_algebra_solutions.specs.Solution.{unbound}
use Rattle.qs_algebra_solutions.proofs.solution.Row.unbound.Given as goal

abbrev pub invariant-loop : goal.invariant-loop
invariant-loop l = l.cells.items ≡ unbound l.counter
