use Rattle.std.proofs.Common.{◌≡◌, ◌≤◌, [], length, unwrap_or}
use Rattle.qs_query_solutions.proofs.Listing.{Fitting, IsOnTheWay}
use Rattle.qs_query_solutions.proofs.cell_rows.list.Given as goal

abbrev pub invariant-loop-rows : goal.invariant-loop-rows
invariant-loop-rows g l = record {
  fits : Fitting l.op.known l.op.table l.rows.items;
  few : length l.rows.items ≤ l.max_rows;
  way : IsOnTheWay l.fn.op.rows l.op.known l.op.table l.op.rows l.rows.items;
  known : l.op.known ≡ l.fn.op.known;
}

abbrev pub decreases-loop-rows : goal.decreases-loop-rows
decreases-loop-rows g l = length (unwrap_or l.op.rows [])
