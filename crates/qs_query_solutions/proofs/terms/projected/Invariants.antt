use Rattle.std.proofs.Common.{◌≡◌}
use Rattle.qs_algebra_solutions.specs.Solution.{projected}
use Rattle.qs_expr.specs.inner.Cell.{row_solution}
use Rattle.qs_query_solutions.specs.inner.Front.{front}
use Rattle.qs_query_solutions.proofs.terms.projected.Given as goal

abbrev pub invariant-loop-at : goal.invariant-loop-at
invariant-loop-at g l = l.solution ≡ front l.at l.width (projected l.columns (row_solution l.op.known l.op.table l.row))
