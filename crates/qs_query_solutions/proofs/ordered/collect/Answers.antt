use Rattle.std.proofs.Common.{length, unwrap_or, [], ◌<◌, sym, subst}
use Rattle.qs_expr.specs.inner.Cell.{row_solution}
use Rattle.qs_expr.specs.inner.Scratch.{Grows}
use Rattle.qs_ops_walk.specs.inner.Stream.{Stream}
use Rattle.qs_query_order.proofs.Keeping.{none_in_front}
use Rattle.qs_query_solutions.specs.inner.SoFar.{Fit}
use Rattle.qs_query_solutions.proofs.Coming.{fewer}
use Rattle.qs_query_solutions.proofs.InOrder.{IsOnTheWay, at_start, none_fit, none_more, one_more, still_fit}
use Rattle.qs_query_solutions.proofs.ordered.collect.Goals as goal

pub loop-alloc-init : goal.loop-alloc-init
loop-alloc-init g c = record {
  front = none_in_front c.args.conditions.now c.args.count c.new-kept.result.items c.new-kept.ensures.items;
  fits = none_fit c.args.op.now.known c.args.conditions.now c.args.count c.args.op.now.table c.new-kept.result.items c.new-kept.ensures.items;
  way = at_start c.args.conditions.now c.args.count c.args.most c.args.op.now.rows c.args.op.now.known c.args.op.now.table c.new-kept.result.items c.new-kept.ensures.items;
}

pub loop-alloc-preserved : goal.loop-alloc-preserved
loop-alloc-preserved g c =
    let cs = c.args.conditions.now in
    let count = c.args.count in
    let start = c.args.op.now.rows in
    let at = c.loop-alloc.op in
    let next = c.next.new.self in
    let m = row_solution next.known next.table c.in-Some.row in
    let same = sym c.next.ensures.known in
    let grows : Grows next.known at.table next.table = subst (λ k. Grows k at.table next.table) same c.next.ensures.grows in
    let before : IsOnTheWay cs count c.args.most start next.known at.table c.loop-alloc.left at.rows c.loop-alloc.kept.items = subst (λ k. IsOnTheWay cs count c.args.most start k at.table c.loop-alloc.left at.rows c.loop-alloc.kept.items) same c.loop-alloc.invariant.way in
    let fit : Fit next.known next.table c.loop-alloc.kept.items = still_fit next.known cs count at.table next.table grows c.loop-alloc.kept.items (subst (λ k. Fit k at.table c.loop-alloc.kept.items) same c.loop-alloc.invariant.fits) in
    record {
      front = c.in_ok-take_in.ensures.front;
      fits = subst (λ (o : Stream). Fit o.known o.table c.take_in.new.kept.items) (sym c.take_in.ensures.op) (c.in_ok-take_in.ensures.fits fit);
      way =
          subst (λ (o : Stream). IsOnTheWay cs count c.args.most start o.known o.table c.one_less-left.result o.rows c.take_in.new.kept.items) (sym c.take_in.ensures.op)
          (one_more cs count c.args.most start next.known at.table c.loop-alloc.left at.rows c.loop-alloc.kept.items before next.table grows m next.rows c.take_in.new.kept.items c.one_less-left.result (rw c.in-Some.is at c.in_ok-row.ensures.rows)
          c.in_ok-take_in.ensures.kept c.one_less-left.ensures);
    }

pub loop-alloc-smaller : goal.loop-alloc-smaller
loop-alloc-smaller g c =
    subst (λ (o : Stream). length (unwrap_or o.rows []) < length (unwrap_or c.loop-alloc.op.rows [])) (sym c.take_in.ensures.op)
    (fewer c.loop-alloc.op.rows (row_solution c.next.new.self.known c.next.new.self.table c.in-Some.row) c.next.new.self.rows (rw c.in-Some.is at c.in_ok-row.ensures.rows))

pub returns-in_default-clause-fits : goal.returns-in_default-clause-fits
returns-in_default-clause-fits g c =
    let at = c.loop-alloc.op in
    let next = c.next.new.self in
    let same = sym c.next.ensures.known in
    let grows : Grows next.known at.table next.table = subst (λ k. Grows k at.table next.table) same c.next.ensures.grows in
    still_fit next.known c.args.conditions.now c.args.count at.table next.table grows c.loop-alloc.kept.items (subst (λ k. Fit k at.table c.loop-alloc.kept.items) same c.loop-alloc.invariant.fits)

pub returns-in_default-clause-seen : goal.returns-in_default-clause-seen
returns-in_default-clause-seen g c =
    let cs = c.args.conditions.now in
    let count = c.args.count in
    let start = c.args.op.now.rows in
    let at = c.loop-alloc.op in
    let next = c.next.new.self in
    let same = sym c.next.ensures.known in
    let grows : Grows next.known at.table next.table = subst (λ k. Grows k at.table next.table) same c.next.ensures.grows in
    let before : IsOnTheWay cs count c.args.most start next.known at.table c.loop-alloc.left at.rows c.loop-alloc.kept.items = subst (λ k. IsOnTheWay cs count c.args.most start k at.table c.loop-alloc.left at.rows c.loop-alloc.kept.items) same c.loop-alloc.invariant.way in
    none_more cs count c.args.most start next.known at.table c.loop-alloc.left at.rows c.loop-alloc.kept.items before next.table grows next.rows (rw c.in_default.is at c.in_ok-row.ensures.rows)
