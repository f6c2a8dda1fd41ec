use Rattle.std.proofs.Common.{ℕ, List, ◌++◌, [], map, drop, sym, subst}
use Rattle.std.specs.List.Sorted.{IsPermutation}
use Rattle.std.proofs.lemmas.List.Sorted.{IsPermutation-append_right, IsPermutation-trans}
use Rattle.std.proofs.lemmas.Result.{IfOk-weaker}
use Rattle.qs_index.specs.inner.Entries.{IsUnion}
use Rattle.qs_index.specs.inner.Graph.{named_entries}
use Rattle.qs_index.specs.inner.OrderOf.{IsOrderOf}
use Rattle.qs_index.specs.inner.Permutation.{turned}
use Rattle.qs_index.proofs.NamedOrders.{named_union}
use Rattle.qs_index.proofs.Turned.{IsOrderOf-nil}
use Rattle.qs_index.proofs.Unions.{IsOrderOf-union}
use Rattle.qs_index.proofs.batch.named_order.Goals as goal

pub returns-clause-order : goal.returns-clause-order
returns-clause-order c =
    let all = c.default_first-first.new.entries in
    let k = c.default_first-first.result in
    let p = c.args.permutation in
    let named = c.split_at_mut-named.result.1.now in
    IfOk-weaker c.turned_order.result (λ order. IsUnion [] (map (turned p) named) order.entries) (λ order. (ys : List (List ℕ)) → IsUnion [] c.args.entries.now ys → IsOrderOf p (named_entries ys) order.entries)
    (λ order v ys u.
    IsOrderOf-union p [] [] (drop k all) (named_entries ys) order.entries (IsOrderOf-nil p)
    (named_union [] c.args.entries.now all ys k c.default_first-first.ensures.permutation c.default_first-first.ensures.default c.default_first-first.ensures.named u)
    (subst (λ r. IsUnion [] (map (turned p) r) order.entries) c.split_at_mut-named.ensures.back v))
    c.turned_order.ensures.union

pub returns-clause-permutation : goal.returns-clause-permutation
returns-clause-permutation c =
    let front = c.split_at_mut-named.result.0.now in
    let named = c.split_at_mut-named.result.1.now in
    let moved = IsPermutation-append_right front named c.turned_order.new.entries c.turned_order.ensures.permutation in
    IsPermutation-trans c.args.entries.now c.default_first-first.new.entries (front ++ c.turned_order.new.entries) c.default_first-first.ensures.permutation
    (subst (λ r. IsPermutation r (front ++ c.turned_order.new.entries)) (sym c.split_at_mut-named.ensures.value) moved)
