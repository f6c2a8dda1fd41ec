use Rattle.std.proofs.lemmas.List.Sorted.{IsPermutation-trans, IsPermutation-sym}
use Rattle.std.proofs.Common.{[]}
use Rattle.qs_index.proofs.Unions.{IsUnion-permutation}
use Rattle.qs_index.proofs.batch.both_orders.Goals as goal

pub returns-in_err-named-clause-permutation : goal.returns-in_err-named-clause-permutation
returns-in_err-named-clause-permutation c =
    IsPermutation-trans c.args.entries.now c.turned_order.new.entries c.named_order.new.entries c.turned_order.ensures.permutation c.named_order.ensures.permutation

pub returns-clause-named : goal.returns-clause-named
returns-clause-named c =
    λ ys u.
    c.in_ok-named.ensures.order ys (IsUnion-permutation [] c.turned_order.new.entries c.args.entries.now ys (IsPermutation-sym c.args.entries.now c.turned_order.new.entries c.turned_order.ensures.permutation) u)

pub returns-clause-permutation : goal.returns-clause-permutation
returns-clause-permutation c =
    IsPermutation-trans c.args.entries.now c.turned_order.new.entries c.named_order.new.entries c.turned_order.ensures.permutation c.named_order.ensures.permutation
