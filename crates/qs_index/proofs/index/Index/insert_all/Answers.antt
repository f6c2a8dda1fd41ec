use Rattle.std.proofs.Common.{◌≡◌, [], map, subst, sym, ap, arith}
use Rattle.std.specs.List.{All}
use Rattle.std.proofs.lemmas.List.Elements.{All-contains}
use Rattle.std.proofs.lemmas.List.Sorted.{IsPermutation-map, IsPermutation-trans, IsPermutation-sym}
use Rattle.qs_index.specs.inner.Entries.{IsUnion}
use Rattle.qs_index.specs.inner.Entry.{IsEntry, IsAscending}
use Rattle.qs_index.specs.inner.Named.{AreNamedOf}
use Rattle.qs_index.specs.inner.Permutation.{turned}
use Rattle.qs_index.specs.declared.permutation.Permutation.TheVariants.{Gpos, Gosp}
use Rattle.qs_index.proofs.NamedOrders.{named_count-permutation}
use Rattle.qs_index.proofs.Filled.{nothing_where_empty}
use Rattle.qs_index.proofs.Turned.{IsOrderOf-itself}
use Rattle.qs_index.proofs.Unions.{IsUnion-nil, IsUnion-permutation, IsOrderOf-union, turned_by_none, entries_of_union}
use Rattle.qs_index.proofs.index.Index.insert_all.Goals as goal

pub invariant_of-self : goal.invariant_of-self
invariant_of-self c =
    let i = c.self.invariant in
    let all = c.args.entries.now in
    let gspo = c.self.inside.gspo.entries in
    let gpos = c.self.inside.gpos.entries in
    let gosp = c.self.inside.gosp.entries in
    let of : AreNamedOf gspo _ = subst (AreNamedOf gspo) (sym c.named.view_is) i.of_named in
    let each : All IsEntry all = subst (All IsEntry) (turned_by_none all) c.insert_both.ensures.entries in
    let first : IsUnion gspo all c.insert_both.new.order.entries = subst (λ k. IsUnion gspo k c.insert_both.new.order.entries) (turned_by_none all) c.insert_both.ensures.union in
    let second = IsUnion-permutation gpos (map (turned Gpos) all) (map (turned Gpos) c.insert_both.new.entries) c.insert_both-2.new.order.entries (IsPermutation-map (turned Gpos) all c.insert_both.new.entries c.insert_both.ensures.permutation) c.insert_both-2.ensures.union in
    let moved = IsPermutation-trans all c.insert_both.new.entries c.insert_both-2.new.entries c.insert_both.ensures.permutation c.insert_both-2.ensures.permutation in
    let third = IsUnion-permutation gosp (map (turned Gosp) all) (map (turned Gosp) c.insert_both-2.new.entries) c.insert_both-3.new.order.entries (IsPermutation-map (turned Gosp) all c.insert_both-2.new.entries moved) c.insert_both-3.ensures.union in
    let after_first : IsUnion gspo c.insert_both.new.entries c.insert_both.new.order.entries = IsUnion-permutation gspo c.insert_both.new.entries all c.insert_both.new.order.entries (IsPermutation-sym all c.insert_both.new.entries c.insert_both.ensures.permutation) first in
    let after_second : IsUnion gspo c.insert_both-2.new.entries c.insert_both.new.order.entries = IsUnion-permutation gspo c.insert_both-2.new.entries all c.insert_both.new.order.entries (IsPermutation-sym all c.insert_both-2.new.entries moved) first in
    record {
      entries = entries_of_union gspo all c.insert_both.new.order.entries first i.entries (λ x m. All-contains IsEntry all x each m);
      by_subject = IsOrderOf-itself c.insert_both.new.order.entries first.ascending;
      by_predicate = IsOrderOf-union Gpos gspo gpos all c.insert_both.new.order.entries c.insert_both-2.new.order.entries i.by_predicate first second;
      by_object = IsOrderOf-union Gosp gspo gosp all c.insert_both.new.order.entries c.insert_both-3.new.order.entries i.by_object first third;
      of_named = record {
        subject = c.insert_both.ensures.named gspo c.insert_both.new.order.entries first of.subject;
        predicate = c.insert_both-2.ensures.named gspo c.insert_both.new.order.entries after_first of.predicate;
        object = c.insert_both-3.ensures.named gspo c.insert_both.new.order.entries after_second of.object;
      };
    }

pub returns-clause-union : goal.returns-clause-union
returns-clause-union c =
    subst (λ s. IsUnion s.entries c.args.entries.now c.insert_both.new.order.entries) c.self.view_is
    (subst (λ k. IsUnion c.self.inside.gspo.entries k c.insert_both.new.order.entries) (turned_by_none c.args.entries.now) c.insert_both.ensures.union)

pub returns-clause-permutation : goal.returns-clause-permutation
returns-clause-permutation c =
    let all = c.args.entries.now in
    let moved = IsPermutation-trans all c.insert_both.new.entries c.insert_both-2.new.entries c.insert_both.ensures.permutation c.insert_both-2.ensures.permutation in
    IsPermutation-trans all c.insert_both-2.new.entries c.insert_both-3.new.entries moved c.insert_both-3.ensures.permutation

pub insert_both-requires-clause-named_room : goal.insert_both-requires-clause-named_room
insert_both-requires-clause-named_room c = omega (arith, c.requires.named_room, ap (λ s. s.named_spare) c.self.view_is, ap (λ s. s.spare) c.named.view_is)

pub insert_both-requires-2-clause-named_room : goal.insert_both-requires-2-clause-named_room
insert_both-requires-2-clause-named_room c =
    omega (arith, named_count-permutation c.args.entries.now c.insert_both.new.entries c.insert_both.ensures.permutation, c.requires.named_room, ap (λ s. s.named_spare) c.self.view_is, ap (λ s. s.spare) c.named.view_is)

pub insert_both-requires-3-clause-named_room : goal.insert_both-requires-3-clause-named_room
insert_both-requires-3-clause-named_room c =
    let all = c.args.entries.now in
    let moved = IsPermutation-trans all c.insert_both.new.entries c.insert_both-2.new.entries c.insert_both.ensures.permutation c.insert_both-2.ensures.permutation in
    omega (arith, named_count-permutation all c.insert_both-2.new.entries moved, c.requires.named_room, ap (λ s. s.named_spare) c.self.view_is, ap (λ s. s.spare) c.named.view_is)

pub returns-clause-named_spare : goal.returns-clause-named_spare
returns-clause-named_spare c =
    let all = c.args.entries.now in
    let moved = IsPermutation-trans all c.insert_both.new.entries c.insert_both-2.new.entries c.insert_both.ensures.permutation c.insert_both-2.ensures.permutation in
    let first = named_count-permutation all c.insert_both.new.entries c.insert_both.ensures.permutation in
    let second = named_count-permutation all c.insert_both-2.new.entries moved in
    omega (arith, first, second, c.insert_both.ensures.named_spare, c.insert_both-2.ensures.named_spare, c.insert_both-3.ensures.named_spare, ap (λ s. s.named_spare) c.self.view_is, ap (λ s. s.spare) c.named.view_is)

pub returns-then-is_empty-clause-union : goal.returns-then-is_empty-clause-union
returns-then-is_empty-clause-union c =
    let none : c.args.entries.now ≡ [] = nothing_where_empty c.args.entries.now c.if-is_empty.ensures in
    let ascending : IsAscending c.args.self.now.entries = subst (λ s. IsAscending s.entries) c.self.view_is c.self.invariant.by_subject.ascending in
    subst (λ k. IsUnion c.args.self.now.entries k c.args.self.now.entries) (sym none) (IsUnion-nil c.args.self.now.entries ascending)
