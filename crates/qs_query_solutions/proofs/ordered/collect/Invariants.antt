use Rattle.std.proofs.Common.{[], length, unwrap_or}
use Rattle.qs_query_order.specs.inner.Keyed.{AreInFrontIf}
use Rattle.qs_query_solutions.specs.inner.SoFar.{Fit}
use Rattle.qs_query_solutions.proofs.InOrder.{IsOnTheWay}
use Rattle.qs_query_solutions.proofs.ordered.collect.Given as goal

abbrev pub invariant-loop-alloc : goal.invariant-loop-alloc
invariant-loop-alloc g l = record {
  front : AreInFrontIf l.conditions l.count l.kept.items;
  fits : Fit l.op.known l.op.table l.kept.items;
  way : IsOnTheWay l.conditions l.count l.fn.most l.fn.op.rows l.op.known l.op.table l.left l.op.rows l.kept.items;
}

abbrev pub decreases-loop-alloc : goal.decreases-loop-alloc
decreases-loop-alloc g l = length (unwrap_or l.op.rows [])
