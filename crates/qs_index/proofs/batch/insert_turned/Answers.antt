use Rattle.std.proofs.Common.{map, ap, sym, ◌∙◌, subst}
use Rattle.std.specs.List.{All}
use Rattle.std.specs.List.Sorted.{IsPermutation}
use Rattle.std.proofs.lemmas.List.Sorted.{IsPermutation-map}
use Rattle.qs_index.specs.inner.Entries.{IsUnion}
use Rattle.qs_index.specs.inner.Entry.{IsEntry}
use Rattle.qs_index.specs.inner.Permutation.{turned, restored}
use Rattle.qs_index.proofs.Distinct.{map-map}
use Rattle.qs_index.proofs.Turned.{restored-turned}
use Rattle.qs_index.proofs.Unions.{IsUnion-permutation}
use Rattle.qs_index.proofs.batch.insert_turned.Goals as goal

pub returns-clause-union : goal.returns-clause-union
returns-clause-union c =
    subst (λ k. IsUnion c.args.order.now.entries k c.insert_all.new.self.entries) c.turn_all.ensures.turned (IsUnion-permutation c.args.order.now.entries c.turn_all.new.entries c.sort.new.entries c.insert_all.new.self.entries c.sort.ensures.permutation c.insert_all.ensures.union)

pub returns-clause-entries : goal.returns-clause-entries
returns-clause-entries c = subst (All IsEntry) c.turn_all.ensures.turned c.turn_all.ensures.entries

pub returns-clause-permutation : goal.returns-clause-permutation
returns-clause-permutation c =
    let back = restored c.args.permutation in
    let same = ap (map back) c.turn_all.ensures.turned ∙ map-map (turned c.args.permutation) back (restored-turned c.args.permutation) c.args.entries.now in
    subst (IsPermutation c.args.entries.now) (sym c.restore_all.ensures) (subst (λ k. IsPermutation k (map back c.sort.new.entries)) same (IsPermutation-map back c.turn_all.new.entries c.sort.new.entries c.sort.ensures.permutation))
