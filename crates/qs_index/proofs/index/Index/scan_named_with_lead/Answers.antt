use Rattle.std.proofs.Common.{◌≡◌, map, sym, subst, ap, ◌∙◌}
use Rattle.std.specs.List.Sorted.{IsPermutation}
use Rattle.qs_index.specs.inner.Agreeing.{agreeing_named}
use Rattle.qs_index.specs.inner.Entry.{beginning, IsAscending}
use Rattle.qs_index.specs.inner.Graph.{is_named, named_entries}
use Rattle.qs_index.specs.inner.Lead.{named_order_with_lead}
use Rattle.qs_index.specs.inner.OrderOf.{IsOrderOf}
use Rattle.qs_index.specs.inner.Permutation.{named_prefix_of, restored, turned}
use Rattle.qs_index.proofs.Distinct.{IsAscending-filter}
use Rattle.qs_index.proofs.Led.{order_of_named_led, scan_agrees_named_led}
use Rattle.qs_index.proofs.Turned.{scan_ascends, order_length}
use Rattle.qs_index.proofs.index.Index.scan_named_with_lead.Goals as goal

pub returns-clause-agreeing : goal.returns-clause-agreeing
returns-clause-agreeing c =
    let a = c.args in
    let used = named_order_with_lead a.subject a.predicate a.object a.lead in
    let xs = a.self.now.entries in
    let ys = c.order-order.result.now.entries in
    let found = beginning (named_prefix_of a.subject a.predicate a.object) ys in
    let made : c.new.result.rest ≡ map (restored used) found = ap (λ s. s.rest) c.new.ensures ∙ ap (λ k. map (restored k) c.scan.result.rest) c.named_with_lead-lookup.ensures.permutation ∙ ap (map (restored used)) (c.scan.ensures.rest ∙ ap (λ p. beginning p ys) c.named_with_lead-lookup.ensures.prefix) in
    let order : IsOrderOf used (named_entries xs) ys = order_of_named_led a.subject a.predicate a.object a.lead _ xs ys c.named_with_lead-lookup.ensures.permutation c.order-order.ensures.order in
    subst (IsPermutation (agreeing_named a.subject a.predicate a.object xs)) (sym made)
    (scan_agrees_named_led a.subject a.predicate a.object a.lead xs ys c.order-order.ensures.entries c.order-order.ensures.ascending order)

pub returns-clause-ascending : goal.returns-clause-ascending
returns-clause-ascending c =
    let a = c.args in
    let used = named_order_with_lead a.subject a.predicate a.object a.lead in
    let ys = c.order-order.result.now.entries in
    let prefix = named_prefix_of a.subject a.predicate a.object in
    let made : c.new.result.rest ≡ map (restored used) (beginning prefix ys) = ap (λ s. s.rest) c.new.ensures ∙ ap (λ k. map (restored k) c.scan.result.rest) c.named_with_lead-lookup.ensures.permutation ∙ ap (map (restored used)) (c.scan.ensures.rest ∙ ap (λ p. beginning p ys) c.named_with_lead-lookup.ensures.prefix) in
    subst (λ r. IsAscending (map (turned used) r)) (sym made) (scan_ascends used prefix ys c.order-order.ensures.order.ascending)

pub returns-clause-size : goal.returns-clause-size
returns-clause-size c =
    let a = c.args in
    ap (λ s. s.size) c.new.ensures ∙ c.scan.ensures.size ∙ order_length (named_order_with_lead a.subject a.predicate a.object a.lead) (named_entries a.self.now.entries) c.order-order.result.now.entries (IsAscending-filter is_named a.self.now.entries c.order-order.ensures.ascending) (order_of_named_led a.subject a.predicate a.object a.lead _ _ _ c.named_with_lead-lookup.ensures.permutation c.order-order.ensures.order)
