use Rattle.std.proofs.Common.{◌≡◌, map, take}
use Rattle.qs_expr.specs.inner.Cell.{cell_at}
use Rattle.qs_query_solutions.specs.inner.Distinct.{cell_of}
use Rattle.qs_query_solutions.proofs.distinct_rows.keys_of.Given as goal

abbrev pub invariant-loop-column : goal.invariant-loop-column
invariant-loop-column l = map cell_of l.keys.items ≡ map (cell_at l.row) (take l.column-index l.columns)
