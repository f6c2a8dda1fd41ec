use Rattle.std.proofs.Common.{◌≡◌, rules, refl, sym, subst, ◌∷◌}
use Rattle.std.specs.List.{Contains}
use Rattle.std.specs.List.Sorted.{IsPermutation}
use Rattle.qs_index.specs.inner.Entry.{with_entry}
use Rattle.qs_index.specs.inner.Index.{IsOneSet}
use Rattle.qs_index.specs.inner.OrderOf.{IsOrderOf}
use Rattle.qs_index.specs.inner.Entry.{IsEntry}
use Rattle.qs_index.specs.declared.permutation.Permutation.TheVariants.{Gspo, Gpos, Gosp}
use Rattle.qs_index.proofs.Members.{IsPermutation-with}
use Rattle.qs_index.proofs.Turned.{IsOrderOf-itself, order_added, entries_with}
use Rattle.qs_index.proofs.index.Index.insert.Goals as goal

pub invariant_of-self-2 : goal.invariant_of-self-2
invariant_of-self-2 c =
    let i = c.self.invariant in
    let x = c.args.entry in
    let old = c.self.inside.gspo.entries in
    let made : c.insert.new.self.entries ≡ with_entry x old = c.if-not-insert.ensures.added in
    let missing : Contains old x → ⊥ = c.if-not-insert.ensures.new.0 refl in
    let entry : IsEntry x = record { four = search rules; fits = search rules } in
    subst (λ r. IsOneSet r c.insert-2.new.self.entries c.insert-3.new.self.entries c.insert-4.new.self) (sym made)
    record {
      entries = entries_with x old entry i.entries;
      by_subject = subst (λ r. IsOrderOf Gspo r r) made (IsOrderOf-itself c.insert.new.self.entries c.insert.ensures.ascending);
      by_predicate = order_added Gpos x c.turn.result old c.self.inside.gpos.entries c.insert-2.new.self.entries c.insert-2.result c.turn.ensures.turned i.by_predicate missing c.insert-2.ensures.new c.insert-2.ensures.added c.insert-2.ensures.ascending;
      by_object = order_added Gosp x c.turn-2.result old c.self.inside.gosp.entries c.insert-3.new.self.entries c.insert-3.result c.turn-2.ensures.turned i.by_object missing c.insert-3.ensures.new c.insert-3.ensures.added c.insert-3.ensures.ascending;
      of_named = c.insert-4.ensures.orders old missing i.of_named;
    }

pub returns-clause-members : goal.returns-clause-members
returns-clause-members c =
    subst (λ s. IsPermutation (c.args.entry ∷ s.entries) c.insert.new.self.entries) c.self.view_is
    (subst (IsPermutation (c.args.entry ∷ c.self.inside.gspo.entries)) (sym c.if-not-insert.ensures.added) (IsPermutation-with c.args.entry c.self.inside.gspo.entries))
