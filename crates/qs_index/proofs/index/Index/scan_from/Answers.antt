use Rattle.std.proofs.Common.{◌≡◌, map, sym, subst, ap, ◌∙◌}
use Rattle.std.specs.List.Sorted.{IsPermutation}
use Rattle.qs_index.specs.inner.Agreeing.{agreeing}
use Rattle.qs_index.specs.inner.Entry.{beginning, IsAscending}
use Rattle.qs_index.specs.inner.OrderOf.{IsOrderOf}
use Rattle.qs_index.specs.inner.Permutation.{order_used, prefix_of, restored, turned}
use Rattle.qs_index.proofs.NamedOrders.{order_of_used}
use Rattle.qs_index.proofs.Turned.{scan_agrees, scan_ascends, order_length}
use Rattle.qs_index.proofs.index.Index.scan_from.Goals as goal

pub returns-clause-agreeing : goal.returns-clause-agreeing
returns-clause-agreeing c =
    let used = order_used c.args.subject c.args.predicate c.args.object in
    let xs = c.args.self.now.entries in
    let ys = c.order-order.result.now.entries in
    let found = beginning (prefix_of c.args.graph c.args.subject c.args.predicate c.args.object) ys in
    let made : c.new.result.rest ≡ map (restored used) found = ap (λ s. s.rest) c.new.ensures ∙ ap (λ k. map (restored k) c.scan.result.rest) c.new-lookup.ensures.permutation ∙ ap (map (restored used)) (c.scan.ensures.rest ∙ ap (λ p. beginning p ys) c.new-lookup.ensures.prefix) in
    let order : IsOrderOf used xs ys = order_of_used c.args.subject c.args.predicate c.args.object _ xs ys c.new-lookup.ensures.permutation c.order-order.ensures.order in
    subst (IsPermutation (agreeing c.args.graph c.args.subject c.args.predicate c.args.object xs)) (sym made)
    (scan_agrees c.args.graph c.args.subject c.args.predicate c.args.object xs ys c.order-order.ensures.entries c.order-order.ensures.ascending order)

pub returns-clause-ascending : goal.returns-clause-ascending
returns-clause-ascending c =
    let used = order_used c.args.subject c.args.predicate c.args.object in
    let ys = c.order-order.result.now.entries in
    let prefix = prefix_of c.args.graph c.args.subject c.args.predicate c.args.object in
    let made : c.new.result.rest ≡ map (restored used) (beginning prefix ys) = ap (λ s. s.rest) c.new.ensures ∙ ap (λ k. map (restored k) c.scan.result.rest) c.new-lookup.ensures.permutation ∙ ap (map (restored used)) (c.scan.ensures.rest ∙ ap (λ p. beginning p ys) c.new-lookup.ensures.prefix) in
    subst (λ r. IsAscending (map (turned used) r)) (sym made) (scan_ascends used prefix ys c.order-order.ensures.order.ascending)

pub returns-clause-size : goal.returns-clause-size
returns-clause-size c =
    ap (λ s. s.size) c.new.ensures ∙ c.scan.ensures.size ∙ order_length (order_used c.args.subject c.args.predicate c.args.object) c.args.self.now.entries c.order-order.result.now.entries c.order-order.ensures.ascending (order_of_used c.args.subject c.args.predicate c.args.object _ _ _ c.new-lookup.ensures.permutation c.order-order.ensures.order)
