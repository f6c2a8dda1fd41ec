use Rattle.std.proofs.Common.{arith, ◌≡◌, ◌∙◌, ◌-◌, ◌+◌, ◌<◌, ap, sym, length}
use Rattle.std.specs.Ordering.{is_lt}
use Rattle.qs_query_order.specs.inner.Keyed.{is_lower}
use Rattle.qs_query_order.proofs.Cut.{passed, false_of}
use Rattle.qs_query_order.proofs.Keeping.{covered, lower_order}
use Rattle.qs_query_order.proofs.kept.is_passed.Goals as goal

pub returns : goal.returns
returns g c h f all one =
    covered f c.args.conditions.now c.args.count c.args.one.now c.args.kept.now
    (passed (is_lower c.args.conditions.now) c.args.count (lower_order c.keys_are_ordered.ensures c.args.conditions.now) c.args.kept.now c.args.one.now (c.args.count - 1) c.index-kept-count.result c.requires
    (let e : c.args.count - 1 + 1 ≡ c.args.count = omega (arith, c.if-count-eq0.false) in e)
    (let lt : c.args.count - 1 < length c.args.kept.now = omega (arith, c.if-count-eq0.false, c.if-kept-count.false) in lt)
    c.index-kept-count.is
    (sym (ap is_lt c.order_of.ensures) ∙ (sym c.is_lt.ensures ∙ false_of c.is_lt.result h)))
    all one
