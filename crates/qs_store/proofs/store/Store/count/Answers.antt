use Rattle.std.proofs.Common.{subst}
use Rattle.qs_store.specs.inner.Content.{IsContent}
use Rattle.qs_store.proofs.Entries.{whole_entries, Distinct-front}
use Rattle.qs_store.proofs.Stored.{said_once}
use Rattle.qs_store.proofs.store.Store.count.Goals as goal

pub returns-clause-lawful : goal.returns-clause-lawful
returns-clause-lawful c =
    let i = c.self.invariant in
    let s = c.self.inside in
    subst (λ v. IsContent v.base) c.self.view_is record {
      quads_once = said_once s.dict.terms s.layers.base i.distinct c.len.ensures.once (whole_entries s.dict.terms s.known s.layers.base i.within i.known_base);
      above = i.below;
      terms_once = Distinct-front s.known s.dict.terms i.distinct;
    }
