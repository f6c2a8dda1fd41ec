use Rattle.std.proofs.Common.{◌≡◌, ◌∷◌, ◌++◌, [], List, IsTrue, length, ap, sym, subst, ◌∙◌}
use Rattle.qs_terms.specs.Statement.{Statement, fits_places}
use Rattle.qs_terms.specs.declared.term.Term.{Term}
use Rattle.qs_store.specs.Change.{with_terms_of}
use Rattle.qs_store.specs.inner.Change.{IsFullAt}
use Rattle.qs_store.specs.inner.Entries.{AreEntries, IsSaidBehind}
use Rattle.qs_store.specs.inner.References.{referred_quad}
use Rattle.qs_store.proofs.Loaded.{store_more, draft_said, said_behind, known_behind, full_behind}
use Rattle.qs_store.proofs.Stored.{base_same}
use Rattle.qs_store.proofs.store.Store.number_ref_in_draft.Goals as goal

pub invariant_of-self : goal.invariant_of-self
invariant_of-self c =
    let s = c.self.inside in
    store_more s.dict.terms c.numbered_ref.new.dict.terms s.layers.base s.layers.draft s.known s.next s.draft_next c.self.invariant c.numbered_ref.ensures.front c.in-Ok.ensures.lawful.distinct

pub returns-in-Ok-clause-base : goal.returns-in-Ok-clause-base
returns-in-Ok-clause-base c =
    let s = c.self.inside in
    let i = c.self.invariant in
    base_same s.dict.terms c.numbered_ref.new.dict.terms s.layers.base s.known s.next i.within i.known_base c.numbered_ref.ensures.front ∙ ap (λ v. v.base) c.self.view_is

pub returns-in-Ok-clause-quads : goal.returns-in-Ok-clause-quads
returns-in-Ok-clause-quads c =
    let s = c.self.inside in
    draft_said s.dict.terms c.numbered_ref.new.dict.terms s.layers.draft c.numbered_ref.ensures.front c.self.invariant.known_draft ∙ ap (λ v. v.draft.quads) c.self.view_is

pub returns-in-Ok-clause-said : goal.returns-in-Ok-clause-said
returns-in-Ok-clause-said c =
    let s = c.self.inside in
    let more = c.numbered_ref.new.dict.terms in
    let q = referred_quad s.dict.terms c.args.quad in
    let fits : IsTrue (fits_places q.graph q.subject q.predicate) = subst (λ v. let r = referred_quad v.draft.known c.args.quad in IsTrue (fits_places r.graph r.subject r.predicate)) (sym c.self.view_is) c.requires.fits in
    subst (λ v. (entries : _) → AreEntries v.draft.known entries → IsSaidBehind v.draft.known entries (referred_quad v.draft.known c.args.quad) more c.in-Ok.entry) c.self.view_is
    (λ entries h. said_behind s.dict.terms more entries q c.in-Ok.entry c.numbered_ref.ensures.front c.in-Ok.ensures.lawful.distinct fits c.in-Ok.ensures.entry h)

pub returns-in-Ok-clause-known : goal.returns-in-Ok-clause-known
returns-in-Ok-clause-known c =
    let s = c.self.inside in
    let more = c.numbered_ref.new.dict.terms in
    subst (λ v. (first : List Term) (quads : List Statement) → v.draft.known ≡ with_terms_of first quads → more ≡ with_terms_of first (quads ++ referred_quad v.draft.known c.args.quad ∷ [])) c.self.view_is
    (λ first quads h. known_behind s.dict.terms more first quads (referred_quad s.dict.terms c.args.quad) c.in-Ok.ensures.terms h)

pub returns-in-Err-clause-full : goal.returns-in-Err-clause-full
returns-in-Err-clause-full c =
    let s = c.self.inside in
    subst (λ v. (first : List Term) (quads more : List Statement) → v.draft.known ≡ with_terms_of first quads → IsFullAt c.in-Err.fault v.limit (length (with_terms_of first (quads ++ referred_quad v.draft.known c.args.quad ∷ more)))) c.self.view_is
    (λ first quads more h. full_behind c.in-Err.fault s.dict.limit s.dict.terms first quads more (referred_quad s.dict.terms c.args.quad) c.in-Err.ensures.full h)
