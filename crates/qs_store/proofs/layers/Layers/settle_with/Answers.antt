use Rattle.std.proofs.Common.{[], ap, sym, subst, ◌∙◌}
use Rattle.qs_store.specs.Change.{IsChanged}
use Rattle.qs_store.specs.inner.Layers.{drafted}
use Rattle.qs_store.proofs.Drafted.{drafted_none}
use Rattle.qs_store.proofs.layers.Layers.settle_with.Goals as goal

pub returns-in-Ok-clause-base : goal.returns-in-Ok-clause-base
returns-in-Ok-clause-base c =
    subst (λ k. IsChanged c.args.self.now.draft [] c.args.entries.now k) (sym c.release.ensures.entries)
    (subst (λ v. IsChanged v.draft [] c.args.entries.now c.put_together.new.index.entries) c.self.view_is c.in-Ok.ensures.changed)

pub returns-in-Ok-clause-draft : goal.returns-in-Ok-clause-draft
returns-in-Ok-clause-draft c =
    let base = c.release.new.self.entries in
    ap (λ r. drafted base r c.set-in-Ok.new.slot.entries) (ap (λ i. i.entries) c.set.ensures ∙ c.new.ensures.entries) ∙ (ap (λ a. drafted base [] a) (ap (λ i. i.entries) c.set-in-Ok.ensures ∙ c.new-in-Ok.ensures.entries) ∙ drafted_none base)
