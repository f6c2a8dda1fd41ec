use Rattle.std.proofs.Common.{◌∷◌, ◌++◌, length, ap, subst, ◌∙◌}
use Rattle.qs_store.specs.Change.{with_terms_of}
use Rattle.qs_store.specs.inner.Change.{IsFullAt}
use Rattle.qs_store.specs.inner.Entries.{AreEntries, IsSaidBehind}
use Rattle.qs_store.proofs.Loaded.{store_more, draft_said, said_behind, known_behind, full_behind}
use Rattle.qs_store.proofs.Stored.{base_same}
use Rattle.qs_store.proofs.store.Store.number_in_draft.Goals as goal

pub invariant_of-self : goal.invariant_of-self
invariant_of-self c =
    let s = c.self.inside in
    store_more s.dict.terms c.numbered.new.dict.terms s.layers.base s.layers.draft s.known s.next s.draft_next c.self.invariant c.numbered.ensures.front c.in-Ok.ensures.lawful.distinct

pub returns-in-Ok-clause-base : goal.returns-in-Ok-clause-base
returns-in-Ok-clause-base c =
    let s = c.self.inside in
    let i = c.self.invariant in
    base_same s.dict.terms c.numbered.new.dict.terms s.layers.base s.known s.next i.within i.known_base c.numbered.ensures.front ∙ ap (λ v. v.base) c.self.view_is

pub returns-in-Ok-clause-quads : goal.returns-in-Ok-clause-quads
returns-in-Ok-clause-quads c =
    let s = c.self.inside in
    draft_said s.dict.terms c.numbered.new.dict.terms s.layers.draft c.numbered.ensures.front c.self.invariant.known_draft ∙ ap (λ v. v.draft.quads) c.self.view_is

pub returns-in-Ok-clause-said : goal.returns-in-Ok-clause-said
returns-in-Ok-clause-said c =
    let s = c.self.inside in
    let more = c.numbered.new.dict.terms in
    subst (λ v. (entries : _) → AreEntries v.draft.known entries → IsSaidBehind v.draft.known entries c.args.quad.now more c.in-Ok.entry) c.self.view_is
    (λ entries h. said_behind s.dict.terms more entries c.args.quad.now c.in-Ok.entry c.numbered.ensures.front c.in-Ok.ensures.lawful.distinct c.numbered.ensures.fits c.in-Ok.ensures.entry h)

pub returns-in-Ok-clause-known : goal.returns-in-Ok-clause-known
returns-in-Ok-clause-known c = λ first quads h.
    let s = c.self.inside in
    known_behind s.dict.terms c.numbered.new.dict.terms first quads c.args.quad.now c.in-Ok.ensures.terms (ap (λ v. v.draft.known) c.self.view_is ∙ h)

pub returns-in-Err-clause-full : goal.returns-in-Err-clause-full
returns-in-Err-clause-full c = λ first quads more h.
    let s = c.self.inside in
    subst (λ l. IsFullAt c.in-Err.fault l (length (with_terms_of first (quads ++ c.args.quad.now ∷ more)))) (ap (λ v. v.limit) c.self.view_is)
    (full_behind c.in-Err.fault s.dict.limit s.dict.terms first quads more c.args.quad.now c.in-Err.ensures.full (ap (λ v. v.draft.known) c.self.view_is ∙ h))
