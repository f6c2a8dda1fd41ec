use Rattle.std.proofs.Common.{take, ap, sym, subst, ◌∙◌}
use Rattle.qs_store.specs.inner.Entries.{said}
use Rattle.qs_store.specs.inner.Store.{IsStore}
use Rattle.qs_store.proofs.Stored.{content, store_reset, base_after_cut, draft_after_cut}
use Rattle.qs_store.proofs.store.Store.reset.Goals as goal

pub invariant_of-self : goal.invariant_of-self
invariant_of-self c =
    let s = c.self.inside in
    subst (λ t. IsStore t c.reset.new.self.base c.reset.new.self.draft s.known s.next s.next) (sym c.cut.ensures.terms)
    (subst (λ b. IsStore (take s.known s.dict.terms) b c.reset.new.self.draft s.known s.next s.next) (sym c.reset.ensures.base)
    (store_reset s.dict.terms s.layers.base s.layers.draft c.reset.new.self.draft s.known s.next s.draft_next c.self.invariant c.reset.ensures.draft))

pub returns-clause-base : goal.returns-clause-base
returns-clause-base c =
    let s = c.self.inside in
    let i = c.self.invariant in
    ap (λ t. content (said t c.reset.new.self.base) s.next (take s.known t)) c.cut.ensures.terms
    ∙ ap (λ b. content (said (take s.known s.dict.terms) b) s.next (take s.known (take s.known s.dict.terms))) c.reset.ensures.base
    ∙ base_after_cut s.dict.terms s.layers.base s.known s.next i.within i.known_base
    ∙ ap (λ v. v.base) c.self.view_is

pub returns-clause-draft : goal.returns-clause-draft
returns-clause-draft c =
    let s = c.self.inside in
    let i = c.self.invariant in
    ap (λ t. content (said t c.reset.new.self.draft) s.next t) c.cut.ensures.terms
    ∙ ap (λ d. content (said (take s.known s.dict.terms) d) s.next (take s.known s.dict.terms)) c.reset.ensures.draft
    ∙ draft_after_cut s.dict.terms s.layers.base s.known s.next i.within i.known_base
    ∙ ap (λ v. v.base) c.self.view_is
