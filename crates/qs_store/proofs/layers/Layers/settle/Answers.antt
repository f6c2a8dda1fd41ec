use Rattle.std.proofs.Common.{[], ap, subst, ◌∙◌}
use Rattle.qs_store.specs.inner.Layers.{drafted}
use Rattle.qs_store.specs.Same.{SameSet}
use Rattle.qs_store.proofs.Drafted.{nothing_drafted, settled, drafted_none}
use Rattle.qs_store.proofs.layers.Layers.settle.Goals as goal

pub invariant_of-self : goal.invariant_of-self
invariant_of-self c = nothing_drafted _ _ _ _ _ c.put_all.ensures.union.ascending (ap (λ i. i.entries) c.set.ensures ∙ c.new.ensures.entries) (ap (λ i. i.entries) c.set-2.ensures ∙ c.new-2.ensures.entries) (c.set-3.ensures ∙ c.new-3.ensures)

pub returns-clause-base : goal.returns-clause-base
returns-clause-base c =
    let s = c.self.inside in
    subst (λ v. SameSet c.put_all.new.index.entries v.draft) c.self.view_is
    (settled s.index.entries c.take_all.new.index.entries c.put_all.new.index.entries s.removed.entries s.added.entries c.take_all.ensures.difference c.put_all.ensures.union)

pub returns-clause-draft : goal.returns-clause-draft
returns-clause-draft c =
    let base = c.put_all.new.index.entries in
    ap (λ r. drafted base r c.set-2.new.slot.entries) (ap (λ i. i.entries) c.set.ensures ∙ c.new.ensures.entries) ∙ (ap (λ a. drafted base [] a) (ap (λ i. i.entries) c.set-2.ensures ∙ c.new-2.ensures.entries) ∙ drafted_none base)
