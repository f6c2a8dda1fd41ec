use Rattle.std.proofs.Common.{[], ap, ◌∙◌}
use Rattle.qs_store.specs.inner.Layers.{drafted}
use Rattle.qs_store.proofs.Drafted.{nothing_drafted, drafted_none}
use Rattle.qs_store.proofs.layers.Layers.reset.Goals as goal

pub invariant_of-self : goal.invariant_of-self
invariant_of-self c = nothing_drafted _ _ _ _ _ c.self.invariant.parted.once (ap (λ i. i.entries) c.set.ensures ∙ c.new.ensures.entries) (ap (λ i. i.entries) c.set-2.ensures ∙ c.new-2.ensures.entries) (c.set-3.ensures ∙ c.new-3.ensures)

pub returns-clause-draft : goal.returns-clause-draft
returns-clause-draft c =
    let base = c.self.inside.index.entries in
    ap (λ r. drafted base r c.set-2.new.slot.entries) (ap (λ i. i.entries) c.set.ensures ∙ c.new.ensures.entries) ∙ (ap (λ a. drafted base [] a) (ap (λ i. i.entries) c.set-2.ensures ∙ c.new-2.ensures.entries) ∙ (drafted_none base ∙ ap (λ v. v.base) c.self.view_is))
