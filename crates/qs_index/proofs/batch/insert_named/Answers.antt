use Rattle.std.proofs.Common.{◌++◌, ◌≡◌, length, arith, ap, ◌∙◌, map, drop, sym, subst}
use Rattle.std.specs.List.Sorted.{IsPermutation}
use Rattle.std.proofs.lemmas.List.Sorted.{IsPermutation-append_right, IsPermutation-trans}
use Rattle.qs_index.specs.inner.Entries.{IsUnion}
use Rattle.qs_index.specs.inner.Graph.{named_entries}
use Rattle.qs_index.specs.inner.Permutation.{turned}
use Rattle.qs_index.proofs.NamedOrders.{named_union, named_count-parted}
use Rattle.qs_index.proofs.Unions.{IsOrderOf-union}
use Rattle.qs_index.proofs.batch.insert_named.Goals as goal

pub returns-clause-order : goal.returns-clause-order
returns-clause-order c =
    let all = c.default_first-first.new.entries in
    let k = c.default_first-first.result in
    let p = c.args.permutation in
    λ xs ys u o.
    let named = named_union xs c.args.entries.now all ys k c.default_first-first.ensures.permutation c.default_first-first.ensures.default c.default_first-first.ensures.named u in
    IsOrderOf-union p (named_entries xs) c.args.order.now.entries (drop k all) (named_entries ys) c.insert_turned.new.order.entries o named
    (subst (λ r. IsUnion c.args.order.now.entries (map (turned p) r) c.insert_turned.new.order.entries) c.split_at_mut-named.ensures.back c.insert_turned.ensures.union)

pub returns-clause-permutation : goal.returns-clause-permutation
returns-clause-permutation c =
    let front = c.split_at_mut-named.result.0.now in
    let named = c.split_at_mut-named.result.1.now in
    let moved = IsPermutation-append_right front named c.insert_turned.new.entries c.insert_turned.ensures.permutation in
    IsPermutation-trans c.args.entries.now c.default_first-first.new.entries (front ++ c.insert_turned.new.entries) c.default_first-first.ensures.permutation
    (subst (λ r. IsPermutation r (front ++ c.insert_turned.new.entries)) (sym c.split_at_mut-named.ensures.value) moved)

pub insert_turned-requires : goal.insert_turned-requires
insert_turned-requires c =
    let count : length c.split_at_mut-named.result.1.now ≡ length (named_entries c.args.entries.now) =
    ap length c.split_at_mut-named.ensures.back
    ∙ named_count-parted c.args.entries.now c.default_first-first.new.entries c.default_first-first.result c.default_first-first.ensures.permutation c.default_first-first.ensures.default c.default_first-first.ensures.named in
    omega (arith, count, c.requires)

pub returns-clause-spare : goal.returns-clause-spare
returns-clause-spare c =
    let count : length c.split_at_mut-named.result.1.now ≡ length (named_entries c.args.entries.now) =
    ap length c.split_at_mut-named.ensures.back
    ∙ named_count-parted c.args.entries.now c.default_first-first.new.entries c.default_first-first.result c.default_first-first.ensures.permutation c.default_first-first.ensures.default c.default_first-first.ensures.named in
    omega (arith, count, c.insert_turned.ensures.spare)
