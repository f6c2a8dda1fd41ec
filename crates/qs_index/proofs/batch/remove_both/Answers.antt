use Rattle.std.proofs.lemmas.List.Sorted.{IsPermutation-trans, IsPermutation-sym}
use Rattle.qs_index.proofs.Differences.{IsDifference-permutation}
use Rattle.qs_index.proofs.batch.remove_both.Goals as goal

pub returns-clause-named : goal.returns-clause-named
returns-clause-named c =
    λ xs ys u o.
    c.remove_named.ensures.order xs ys (IsDifference-permutation xs c.remove_turned.new.entries c.args.entries.now ys (IsPermutation-sym c.args.entries.now c.remove_turned.new.entries c.remove_turned.ensures.permutation) u) o

pub returns-clause-permutation : goal.returns-clause-permutation
returns-clause-permutation c =
    IsPermutation-trans c.args.entries.now c.remove_turned.new.entries c.remove_named.new.entries c.remove_turned.ensures.permutation c.remove_named.ensures.permutation
