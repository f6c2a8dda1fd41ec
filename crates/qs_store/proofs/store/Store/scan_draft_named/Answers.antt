use Rattle.std.proofs.Common.{subst}
use Rattle.qs_store.specs.inner.NamedQuads.{AreNamedQuads}
use Rattle.qs_store.proofs.NamedQuadsSaid.{draft_named_quads}
use Rattle.qs_store.proofs.store.Store.scan_draft_named.Goals as goal

pub returns : goal.returns
returns c =
    let s = c.self.inside in
    let i = c.self.invariant in
    let a = c.args in
    subst (λ v. AreNamedQuads v.draft a.subject a.predicate a.object c.scan_draft_named.result) c.self.view_is
    (draft_named_quads s.dict.terms s.layers.draft c.scan_draft_named.result s.draft_next a.subject a.predicate a.object i.distinct i.known_draft c.scan_draft_named.ensures)
