use Rattle.std.proofs.Common.{◌++◌, map, drop, sym, subst}
use Rattle.std.specs.List.Sorted.{IsPermutation}
use Rattle.std.proofs.lemmas.List.Sorted.{IsPermutation-append_right, IsPermutation-trans}
use Rattle.qs_index.specs.inner.Entries.{IsDifference}
use Rattle.qs_index.specs.inner.Graph.{named_entries}
use Rattle.qs_index.specs.inner.Permutation.{turned}
use Rattle.qs_index.proofs.NamedOrders.{named_difference}
use Rattle.qs_index.proofs.Differences.{IsOrderOf-difference}
use Rattle.qs_index.proofs.batch.remove_named.Goals as goal

pub returns-clause-order : goal.returns-clause-order
returns-clause-order c =
    let all = c.default_first-first.new.entries in
    let k = c.default_first-first.result in
    let p = c.args.permutation in
    λ xs ys u o.
    let named = named_difference xs c.args.entries.now all ys k c.default_first-first.ensures.permutation c.default_first-first.ensures.default u in
    IsOrderOf-difference p (named_entries xs) c.args.order.now.entries (drop k all) (named_entries ys) c.remove_turned.new.order.entries o named
    (subst (λ r. IsDifference c.args.order.now.entries (map (turned p) r) c.remove_turned.new.order.entries) c.split_at_mut-named.ensures.back c.remove_turned.ensures.difference)

pub returns-clause-permutation : goal.returns-clause-permutation
returns-clause-permutation c =
    let front = c.split_at_mut-named.result.0.now in
    let named = c.split_at_mut-named.result.1.now in
    let moved = IsPermutation-append_right front named c.remove_turned.new.entries c.remove_turned.ensures.permutation in
    IsPermutation-trans c.args.entries.now c.default_first-first.new.entries (front ++ c.remove_turned.new.entries) c.default_first-first.ensures.permutation
    (subst (λ r. IsPermutation r (front ++ c.remove_turned.new.entries)) (sym c.split_at_mut-named.ensures.value) moved)
