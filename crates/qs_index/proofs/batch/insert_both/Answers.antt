use Rattle.std.proofs.Common.{arith}
use Rattle.std.proofs.lemmas.List.Sorted.{IsPermutation-trans, IsPermutation-sym}
use Rattle.qs_index.proofs.NamedOrders.{named_count-permutation}
use Rattle.qs_index.proofs.Unions.{IsUnion-permutation}
use Rattle.qs_index.proofs.batch.insert_both.Goals as goal

pub returns-clause-named : goal.returns-clause-named
returns-clause-named c =
    λ xs ys u o.
    c.insert_named.ensures.order xs ys (IsUnion-permutation xs c.insert_turned.new.entries c.args.entries.now ys (IsPermutation-sym c.args.entries.now c.insert_turned.new.entries c.insert_turned.ensures.permutation) u) o

pub returns-clause-permutation : goal.returns-clause-permutation
returns-clause-permutation c =
    IsPermutation-trans c.args.entries.now c.insert_turned.new.entries c.insert_named.new.entries c.insert_turned.ensures.permutation c.insert_named.ensures.permutation

pub insert_named-requires : goal.insert_named-requires
insert_named-requires c =
    omega (arith, named_count-permutation c.args.entries.now c.insert_turned.new.entries c.insert_turned.ensures.permutation, c.requires.named_room)

pub returns-clause-named_spare : goal.returns-clause-named_spare
returns-clause-named_spare c =
    omega (arith, named_count-permutation c.args.entries.now c.insert_turned.new.entries c.insert_turned.ensures.permutation, c.insert_named.ensures.spare)
