use Rattle.std.proofs.Common.{[], length, unwrap_or}
use Rattle.qs_query_solutions.proofs.Coming.{IsOnTheWay}
use Rattle.qs_query_solutions.proofs.solutions.collect.Given as goal

abbrev pub invariant-loop-alloc : goal.invariant-loop-alloc
invariant-loop-alloc g l = IsOnTheWay l.fn.found l.fn.op.rows l.found l.op.rows

abbrev pub decreases-loop-alloc : goal.decreases-loop-alloc
decreases-loop-alloc g l = length (unwrap_or l.op.rows [])
