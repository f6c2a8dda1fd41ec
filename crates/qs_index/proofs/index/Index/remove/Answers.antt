use Rattle.std.proofs.Common.{◌≡◌, refl, sym, subst, ◌∷◌}
use Rattle.std.specs.List.{Contains}
use Rattle.std.specs.List.Sorted.{IsPermutation}
use Rattle.qs_index.specs.inner.Entry.{without_entry}
use Rattle.qs_index.specs.inner.Index.{IsOneSet}
use Rattle.qs_index.specs.inner.OrderOf.{IsOrderOf}
use Rattle.qs_index.specs.declared.permutation.Permutation.TheVariants.{Gspo, Gpos, Gosp}
use Rattle.qs_index.proofs.Members.{IsPermutation-without, member_of_without, skip_of_member}
use Rattle.qs_index.proofs.Turned.{IsOrderOf-itself, order_removed}
use Rattle.qs_index.proofs.index.Index.remove.Goals as goal

pub invariant_of-self-2 : goal.invariant_of-self-2
invariant_of-self-2 c =
    let i = c.self.invariant in
    let x = c.args.entry in
    let old = c.self.inside.gspo.entries in
    let made : c.remove.new.self.entries ≡ without_entry x old = c.if-not-remove.ensures.taken in
    let stands : Contains old x = c.if-not-remove.ensures.stood.0 refl in
    subst (λ r. IsOneSet r c.remove-2.new.self.entries c.remove-3.new.self.entries c.remove-4.new.self) (sym made)
    record {
      entries = λ y m. i.entries y (member_of_without x y old m);
      by_subject = subst (λ r. IsOrderOf Gspo r r) made (IsOrderOf-itself c.remove.new.self.entries c.remove.ensures.ascending);
      by_predicate = order_removed Gpos x c.turn.result old c.self.inside.gpos.entries c.remove-2.new.self.entries c.remove-2.result c.turn.ensures.turned i.by_subject.ascending stands i.by_predicate c.remove-2.ensures.stood c.remove-2.ensures.taken c.remove-2.ensures.ascending;
      by_object = order_removed Gosp x c.turn-2.result old c.self.inside.gosp.entries c.remove-3.new.self.entries c.remove-3.result c.turn-2.ensures.turned i.by_subject.ascending stands i.by_object c.remove-3.ensures.stood c.remove-3.ensures.taken c.remove-3.ensures.ascending;
      of_named = c.remove-4.ensures.orders old i.by_subject.ascending stands i.of_named;
    }

pub returns-clause-members : goal.returns-clause-members
returns-clause-members c =
    let old = c.self.inside.gspo.entries in
    let stands : Contains old c.args.entry = c.if-not-remove.ensures.stood.0 refl in
    subst (λ s. IsPermutation s.entries (c.args.entry ∷ c.remove.new.self.entries)) c.self.view_is
    (subst (λ r. IsPermutation old (c.args.entry ∷ r)) (sym c.if-not-remove.ensures.taken) (IsPermutation-without c.args.entry old (skip_of_member c.args.entry old c.self.invariant.by_subject.ascending stands)))
