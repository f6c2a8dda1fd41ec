use Rattle.std.proofs.Common.{[], map, ap, sym, ◌∙◌, subst}
use Rattle.std.specs.List.Sorted.{IsPermutation}
use Rattle.std.proofs.lemmas.List.Sorted.{IsPermutation-map}
use Rattle.std.proofs.lemmas.Result.{IfOk-weaker}
use Rattle.qs_index.specs.inner.Entries.{IsUnion}
use Rattle.qs_index.specs.inner.Permutation.{turned, restored}
use Rattle.qs_index.proofs.Distinct.{map-map}
use Rattle.qs_index.proofs.Turned.{restored-turned}
use Rattle.qs_index.proofs.Unions.{IsUnion-permutation}
use Rattle.qs_index.proofs.batch.turned_order.Goals as goal

pub returns-clause-union : goal.returns-clause-union
returns-clause-union c =
    IfOk-weaker c.from_entries-order.result (λ order. IsUnion [] c.sort.new.entries order.entries) (λ order. IsUnion [] (map (turned c.args.permutation) c.args.entries.now) order.entries)
    (λ order u. subst (λ k. IsUnion [] k order.entries) c.turn_all.ensures.turned (IsUnion-permutation [] c.turn_all.new.entries c.sort.new.entries order.entries c.sort.ensures.permutation u))
    c.from_entries-order.ensures

pub returns-clause-permutation : goal.returns-clause-permutation
returns-clause-permutation c =
    let back = restored c.args.permutation in
    let same = ap (map back) c.turn_all.ensures.turned ∙ map-map (turned c.args.permutation) back (restored-turned c.args.permutation) c.args.entries.now in
    subst (IsPermutation c.args.entries.now) (sym c.restore_all.ensures) (subst (λ k. IsPermutation k (map back c.sort.new.entries)) same (IsPermutation-map back c.turn_all.new.entries c.sort.new.entries c.sort.ensures.permutation))
