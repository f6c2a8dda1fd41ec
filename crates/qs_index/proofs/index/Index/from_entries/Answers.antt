use Rattle.std.proofs.Common.{[], map, subst}
use Rattle.std.specs.List.{All}
use Rattle.std.proofs.lemmas.List.Elements.{All-contains}
use Rattle.std.proofs.lemmas.List.Sorted.{IsPermutation-map, IsPermutation-trans, IsPermutation-sym}
use Rattle.qs_index.specs.inner.Entries.{IsUnion}
use Rattle.qs_index.specs.inner.Entry.{IsEntry}
use Rattle.qs_index.specs.inner.Permutation.{turned}
use Rattle.qs_index.specs.declared.permutation.Permutation.TheVariants.{Gpos, Gosp}
use Rattle.qs_index.proofs.Distinct.{nothing_in_nil}
use Rattle.qs_index.proofs.Turned.{IsOrderOf-nil, IsOrderOf-itself}
use Rattle.qs_index.proofs.Unions.{IsUnion-permutation, IsOrderOf-union, turned_by_none, entries_of_union}
use Rattle.qs_index.proofs.index.Index.from_entries.Goals as goal

pub returns-in_err-by_predicate-clause-permutation : goal.returns-in_err-by_predicate-clause-permutation
returns-in_err-by_predicate-clause-permutation c =
    IsPermutation-trans c.args.entries.now c.both_orders.new.entries c.both_orders-2.new.entries c.both_orders.ensures.permutation c.both_orders-2.ensures.permutation

pub returns-in_err-by_object-clause-permutation : goal.returns-in_err-by_object-clause-permutation
returns-in_err-by_object-clause-permutation c =
    let all = c.args.entries.now in
    let moved = IsPermutation-trans all c.both_orders.new.entries c.both_orders-2.new.entries c.both_orders.ensures.permutation c.both_orders-2.ensures.permutation in
    IsPermutation-trans all c.both_orders-2.new.entries c.both_orders-3.new.entries moved c.both_orders-3.ensures.permutation

pub invariant_of-result : goal.invariant_of-result
invariant_of-result c =
    let all = c.args.entries.now in
    let s = c.both_orders.new.entries in
    let p = c.both_orders-2.new.entries in
    let gspo = c.in_ok-by_subject.by_subject.all.entries in
    let gpos = c.in_ok-by_predicate.by_predicate.all.entries in
    let gosp = c.in_ok-by_object.by_object.all.entries in
    let each : All IsEntry all = subst (All IsEntry) (turned_by_none all) c.both_orders.ensures.entries in
    let first : IsUnion [] all gspo = subst (λ k. IsUnion [] k gspo) (turned_by_none all) c.in_ok-by_subject.ensures.union in
    let moved = IsPermutation-trans all s p c.both_orders.ensures.permutation c.both_orders-2.ensures.permutation in
    let second = IsUnion-permutation [] (map (turned Gpos) all) (map (turned Gpos) s) gpos (IsPermutation-map (turned Gpos) all s c.both_orders.ensures.permutation) c.in_ok-by_predicate.ensures.union in
    let third = IsUnion-permutation [] (map (turned Gosp) all) (map (turned Gosp) p) gosp (IsPermutation-map (turned Gosp) all p moved) c.in_ok-by_object.ensures.union in
    record {
      entries = entries_of_union [] all gspo first (λ x m. absurd (nothing_in_nil x m)) (λ x m. All-contains IsEntry all x each m);
      by_subject = IsOrderOf-itself gspo first.ascending;
      by_predicate = IsOrderOf-union Gpos [] [] all gspo gpos (IsOrderOf-nil Gpos) first second;
      by_object = IsOrderOf-union Gosp [] [] all gspo gosp (IsOrderOf-nil Gosp) first third;
      of_named = record {
        subject = c.in_ok-by_subject.ensures.named gspo first;
        predicate = c.in_ok-by_predicate.ensures.named gspo (IsUnion-permutation [] s all gspo (IsPermutation-sym all s c.both_orders.ensures.permutation) first);
        object = c.in_ok-by_object.ensures.named gspo (IsUnion-permutation [] p all gspo (IsPermutation-sym all p moved) first);
      };
    }

pub returns-clause-union : goal.returns-clause-union
returns-clause-union c =
    subst (λ k. IsUnion [] k c.in_ok-by_subject.by_subject.all.entries) (turned_by_none c.args.entries.now) c.in_ok-by_subject.ensures.union

pub returns-clause-permutation : goal.returns-clause-permutation
returns-clause-permutation c =
    let all = c.args.entries.now in
    let moved = IsPermutation-trans all c.both_orders.new.entries c.both_orders-2.new.entries c.both_orders.ensures.permutation c.both_orders-2.ensures.permutation in
    IsPermutation-trans all c.both_orders-2.new.entries c.both_orders-3.new.entries moved c.both_orders-3.ensures.permutation
