use Rattle.std.proofs.Common.{map, ap, sym, ◌∙◌, subst}
use Rattle.std.specs.List.Sorted.{IsPermutation}
use Rattle.std.proofs.lemmas.List.Sorted.{IsPermutation-map}
use Rattle.qs_index.specs.inner.Entries.{IsDifference}
use Rattle.qs_index.specs.inner.Permutation.{turned, restored}
use Rattle.qs_index.proofs.Distinct.{map-map}
use Rattle.qs_index.proofs.Turned.{restored-turned}
use Rattle.qs_index.proofs.Differences.{IsDifference-permutation}
use Rattle.qs_index.proofs.batch.remove_turned.Goals as goal

pub returns-clause-difference : goal.returns-clause-difference
returns-clause-difference c =
    subst (λ k. IsDifference c.args.order.now.entries k c.remove_all.new.self.entries) c.turn_all.ensures.turned (IsDifference-permutation c.args.order.now.entries c.turn_all.new.entries c.sort.new.entries c.remove_all.new.self.entries c.sort.ensures.permutation c.remove_all.ensures.difference)

pub returns-clause-permutation : goal.returns-clause-permutation
returns-clause-permutation c =
    let back = restored c.args.permutation in
    let same = ap (map back) c.turn_all.ensures.turned ∙ map-map (turned c.args.permutation) back (restored-turned c.args.permutation) c.args.entries.now in
    subst (IsPermutation c.args.entries.now) (sym c.restore_all.ensures) (subst (λ k. IsPermutation k (map back c.sort.new.entries)) same (IsPermutation-map back c.turn_all.new.entries c.sort.new.entries c.sort.ensures.permutation))
