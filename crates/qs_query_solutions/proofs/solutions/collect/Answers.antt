use Rattle.std.proofs.Common.{sym, subst, length, unwrap_or, [], ◌<◌}
use Rattle.qs_expr.specs.inner.Cell.{row_solution}
use Rattle.qs_ops_walk.specs.inner.Stream.{Stream}
use Rattle.qs_query_solutions.proofs.Coming.{IsOnTheWay, one_more, fewer}
use Rattle.qs_query_solutions.proofs.solutions.collect.Goals as goal

pub loop-alloc-preserved : goal.loop-alloc-preserved
loop-alloc-preserved g c =
    subst (λ (o : Stream). IsOnTheWay c.args.found.now c.args.op.now.rows c.put.new.self o.rows) (sym c.give_back.ensures)
    (one_more c.args.found.now c.args.op.now.rows c.loop-alloc.found c.loop-alloc.op.rows c.loop-alloc.invariant c.put.new.self (row_solution c.next.new.self.known c.next.new.self.table c.in-Some.row) c.next.new.self.rows (rw c.in-Some.is at c.in_ok-row.ensures.rows) c.in_ok-put.ensures)

pub loop-alloc-smaller : goal.loop-alloc-smaller
loop-alloc-smaller g c =
    subst (λ (o : Stream). length (unwrap_or o.rows []) < length (unwrap_or c.loop-alloc.op.rows [])) (sym c.give_back.ensures)
    (fewer c.loop-alloc.op.rows (row_solution c.next.new.self.known c.next.new.self.table c.in-Some.row) c.next.new.self.rows (rw c.in-Some.is at c.in_ok-row.ensures.rows))
