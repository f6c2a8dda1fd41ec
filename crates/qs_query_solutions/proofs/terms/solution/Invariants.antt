use Rattle.std.proofs.Common.{◌≡◌}
use Rattle.qs_expr.specs.inner.Cell.{row_solution}
use Rattle.qs_query_solutions.specs.inner.Front.{front}
use Rattle.qs_query_solutions.proofs.terms.solution.Given as goal

abbrev pub invariant-loop-variable : goal.invariant-loop-variable
invariant-loop-variable g l = l.solution ≡ front l.variable l.width (row_solution l.op.known l.op.table l.row)
