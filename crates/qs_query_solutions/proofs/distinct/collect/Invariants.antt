use Rattle.std.proofs.Common.{[], length, unwrap_or}
use Rattle.std.specs.List.{AllByRecursion}
use Rattle.qs_expr.specs.inner.Cell.{FitsRow}
use Rattle.qs_expr.specs.inner.Scratch.{IsTable}
use Rattle.qs_query_solutions.specs.inner.Distinct.{IsDistinctWay}
use Rattle.qs_query_solutions.proofs.distinct.collect.Given as goal

abbrev pub invariant-found : goal.invariant-found
invariant-found g l = record {
  table : IsTable l.op.known l.op.table;
  fits : AllByRecursion (FitsRow l.op.known l.op.table) l.rows;
  way : IsDistinctWay l.op.known l.op.table l.columns l.fn.op.rows l.rows l.op.rows;
}

abbrev pub decreases-found : goal.decreases-found
decreases-found g l = length (unwrap_or l.op.rows [])
