use Rattle.std.proofs.Common.{◌≡◌, map}
use Rattle.qs_expr.specs.inner.Cell.{row_solution}
use Rattle.qs_query_solutions.specs.inner.Distinct.{cell_of}
use Rattle.qs_query_solutions.specs.inner.Front.{front}
use Rattle.qs_query_solutions.proofs.distinct_rows.made.Given as goal

abbrev pub invariant-loop-at : goal.invariant-loop-at
invariant-loop-at g l = l.solution ≡ front l.at l.width (row_solution l.op.known l.op.table (map cell_of l.keys))
