use Rattle.std.proofs.Common.{◌≡◌, map, take}
use Rattle.qs_expr.specs.inner.Cell.{row_solution}
use Rattle.qs_query_solutions.specs.inner.Distinct.{cells_of}
use Rattle.qs_query_solutions.proofs.distinct_rows.DistinctRows.solutions.Given as goal

abbrev pub invariant-loop-keys : goal.invariant-loop-keys
invariant-loop-keys g l = l.rows.items ≡ map (row_solution l.op.known l.op.table) (map cells_of (take l.keys-index l.keys-items))
