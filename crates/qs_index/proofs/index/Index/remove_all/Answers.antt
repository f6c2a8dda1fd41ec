use Rattle.std.proofs.Common.{◌≡◌, [], map, subst, sym}
use Rattle.std.proofs.lemmas.List.Sorted.{IsPermutation-map, IsPermutation-trans, IsPermutation-sym}
use Rattle.qs_index.specs.inner.Entries.{IsDifference}
use Rattle.qs_index.specs.inner.Entry.{IsAscending}
use Rattle.qs_index.specs.inner.Named.{AreNamedOf}
use Rattle.qs_index.specs.inner.Permutation.{turned}
use Rattle.qs_index.specs.declared.permutation.Permutation.TheVariants.{Gpos, Gosp}
use Rattle.qs_index.proofs.Filled.{nothing_where_empty}
use Rattle.qs_index.proofs.Turned.{IsOrderOf-itself}
use Rattle.qs_index.proofs.Unions.{turned_by_none}
use Rattle.qs_index.proofs.Differences.{IsDifference-nil, IsDifference-permutation, IsOrderOf-difference}
use Rattle.qs_index.proofs.index.Index.remove_all.Goals as goal

pub invariant_of-self : goal.invariant_of-self
invariant_of-self c =
    let i = c.self.invariant in
    let all = c.args.entries.now in
    let gspo = c.self.inside.gspo.entries in
    let gpos = c.self.inside.gpos.entries in
    let gosp = c.self.inside.gosp.entries in
    let of : AreNamedOf gspo _ = subst (AreNamedOf gspo) (sym c.named.view_is) i.of_named in
    let first : IsDifference gspo all c.remove_both.new.order.entries = subst (λ k. IsDifference gspo k c.remove_both.new.order.entries) (turned_by_none all) c.remove_both.ensures.difference in
    let second = IsDifference-permutation gpos (map (turned Gpos) all) (map (turned Gpos) c.remove_both.new.entries) c.remove_both-2.new.order.entries (IsPermutation-map (turned Gpos) all c.remove_both.new.entries c.remove_both.ensures.permutation) c.remove_both-2.ensures.difference in
    let moved = IsPermutation-trans all c.remove_both.new.entries c.remove_both-2.new.entries c.remove_both.ensures.permutation c.remove_both-2.ensures.permutation in
    let third = IsDifference-permutation gosp (map (turned Gosp) all) (map (turned Gosp) c.remove_both-2.new.entries) c.remove_both-3.new.order.entries (IsPermutation-map (turned Gosp) all c.remove_both-2.new.entries moved) c.remove_both-3.ensures.difference in
    let after_first : IsDifference gspo c.remove_both.new.entries c.remove_both.new.order.entries = IsDifference-permutation gspo c.remove_both.new.entries all c.remove_both.new.order.entries (IsPermutation-sym all c.remove_both.new.entries c.remove_both.ensures.permutation) first in
    let after_second : IsDifference gspo c.remove_both-2.new.entries c.remove_both.new.order.entries = IsDifference-permutation gspo c.remove_both-2.new.entries all c.remove_both.new.order.entries (IsPermutation-sym all c.remove_both-2.new.entries moved) first in
    record {
      entries = λ x m. i.entries x (first.only x m);
      by_subject = IsOrderOf-itself c.remove_both.new.order.entries first.ascending;
      by_predicate = IsOrderOf-difference Gpos gspo gpos all c.remove_both.new.order.entries c.remove_both-2.new.order.entries i.by_predicate first second;
      by_object = IsOrderOf-difference Gosp gspo gosp all c.remove_both.new.order.entries c.remove_both-3.new.order.entries i.by_object first third;
      of_named = record {
        subject = c.remove_both.ensures.named gspo c.remove_both.new.order.entries first of.subject;
        predicate = c.remove_both-2.ensures.named gspo c.remove_both.new.order.entries after_first of.predicate;
        object = c.remove_both-3.ensures.named gspo c.remove_both.new.order.entries after_second of.object;
      };
    }

pub returns-clause-difference : goal.returns-clause-difference
returns-clause-difference c =
    subst (λ s. IsDifference s.entries c.args.entries.now c.remove_both.new.order.entries) c.self.view_is
    (subst (λ k. IsDifference c.self.inside.gspo.entries k c.remove_both.new.order.entries) (turned_by_none c.args.entries.now) c.remove_both.ensures.difference)

pub returns-clause-permutation : goal.returns-clause-permutation
returns-clause-permutation c =
    let all = c.args.entries.now in
    let moved = IsPermutation-trans all c.remove_both.new.entries c.remove_both-2.new.entries c.remove_both.ensures.permutation c.remove_both-2.ensures.permutation in
    IsPermutation-trans all c.remove_both-2.new.entries c.remove_both-3.new.entries moved c.remove_both-3.ensures.permutation

pub returns-then-is_empty-clause-difference : goal.returns-then-is_empty-clause-difference
returns-then-is_empty-clause-difference c =
    let none : c.args.entries.now ≡ [] = nothing_where_empty c.args.entries.now c.if-is_empty.ensures in
    let ascending : IsAscending c.args.self.now.entries = subst (λ s. IsAscending s.entries) c.self.view_is c.self.invariant.by_subject.ascending in
    subst (λ k. IsDifference c.args.self.now.entries k c.args.self.now.entries) (sym none) (IsDifference-nil c.args.self.now.entries ascending)
