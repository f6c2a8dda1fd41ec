use Rattle.std.proofs.Common.{subst}
use Rattle.qs_store.specs.inner.Content.{KnowsItsTerms, AreLawful}
use Rattle.qs_store.proofs.Stored.{draft_known, draft_lawful}
use Rattle.qs_store.proofs.store.Store.draft_terms.Goals as goal

pub returns-clause-known : goal.returns-clause-known
returns-clause-known c =
    let s = c.self.inside in
    subst (λ v. KnowsItsTerms v.draft) c.self.view_is (draft_known s.dict.terms s.layers.draft s.draft_next c.self.invariant.known_draft)

pub returns-clause-places : goal.returns-clause-places
returns-clause-places c =
    let s = c.self.inside in
    subst (λ v. AreLawful v.draft.quads) c.self.view_is (draft_lawful s.dict.terms s.layers.draft c.self.invariant.known_draft)
