use Rattle.std.proofs.Common.{◌+◌, arith, sym, subst}
use Rattle.qs_expr.specs.inner.Cell.{row_solution}
use Rattle.qs_ops_walk.specs.inner.Stream.{Stream}
use Rattle.qs_query_solutions.proofs.Coming.{IsPassing, none_passed_yet, one_passed}
use Rattle.qs_query_solutions.proofs.solutions.pass.Goals as goal

pub loop-passed-init : goal.loop-passed-init
loop-passed-init g c = record {
  passing = none_passed_yet c.args.op.now.rows;
  few = omega arith;
}

pub loop-passed-preserved : goal.loop-passed-preserved
loop-passed-preserved g c = record {
  passing =
      subst (λ (o : Stream). IsPassing c.args.op.now.rows (c.loop-passed.passed + 1) o.rows) (sym c.give_back.ensures)
      (one_passed c.args.op.now.rows c.loop-passed.passed c.loop-passed.op.rows c.loop-passed.invariant.passing (row_solution c.next.new.self.known c.next.new.self.table c.in-Some.row) c.next.new.self.rows (rw c.in-Some.is at c.in_ok-row.ensures.rows));
  few = omega (arith, c.loop-passed-test.true);
}
