use Rattle.std.proofs.Common.{◌≡◌, take}
use Rattle.qs_algebra_solutions.specs.Solution.{projected}
use Rattle.qs_algebra_solutions.proofs.solution.Row.project.Given as goal

abbrev pub invariant-loop-column : goal.invariant-loop-column
invariant-loop-column l = l.cells.items ≡ projected (take l.column-index l.columns) l.self
