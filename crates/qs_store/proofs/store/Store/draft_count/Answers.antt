use Rattle.std.proofs.Common.{subst}
use Rattle.qs_store.specs.inner.Content.{IsContent}
use Rattle.qs_store.proofs.Stored.{said_once}
use Rattle.qs_store.proofs.store.Store.draft_count.Goals as goal

pub returns-clause-lawful : goal.returns-clause-lawful
returns-clause-lawful c =
    let i = c.self.invariant in
    let s = c.self.inside in
    subst (λ v. IsContent v.draft) c.self.view_is record {
      quads_once = said_once s.dict.terms s.layers.draft i.distinct c.draft_len.ensures.once i.known_draft;
      above = i.above;
      terms_once = i.distinct;
    }
