use Rattle.std.proofs.Common.{◌≤◌, take, ap, sym, subst, ◌∙◌}
use Rattle.qs_store.specs.inner.Entries.{said}
use Rattle.qs_store.specs.Change.{IsChanged}
use Rattle.qs_store.specs.inner.Store.{IsStore}
use Rattle.qs_store.proofs.Stored.{content, store_changed, base_same}
use Rattle.qs_store.proofs.store.Store.change_draft.Goals as goal

pub invariant_of-self : goal.invariant_of-self
invariant_of-self c =
    let s = c.self.inside in
    let more = c.change.new.dict.terms in
    let new = c.change.new.layers.draft in
    subst (λ b. IsStore more b new s.known s.next c.args.next) (sym c.change.ensures.base)
    (store_changed s.dict.terms more s.layers.base s.layers.draft new s.known s.next s.draft_next c.args.next c.args.remove.now c.args.add.now c.self.invariant c.change.ensures.front c.in-Ok.ensures.lawful.distinct c.in-Ok.ensures.entries c.in-Ok.ensures.quads
    (subst (λ v. v.draft.next ≤ c.args.next) (sym c.self.view_is) c.requires.next) c.requires.above)

pub returns-in-Ok-clause-base : goal.returns-in-Ok-clause-base
returns-in-Ok-clause-base c =
    let s = c.self.inside in
    let i = c.self.invariant in
    let more = c.change.new.dict.terms in
    ap (λ b. content (said more b) s.next (take s.known more)) c.change.ensures.base
    ∙ base_same s.dict.terms more s.layers.base s.known s.next i.within i.known_base c.change.ensures.front
    ∙ ap (λ v. v.base) c.self.view_is

pub returns-in-Ok-clause-quads : goal.returns-in-Ok-clause-quads
returns-in-Ok-clause-quads c =
    subst (λ v. IsChanged v.draft.quads c.args.remove.now c.args.add.now (said c.change.new.dict.terms c.change.new.layers.draft)) c.self.view_is c.in-Ok.ensures.quads
