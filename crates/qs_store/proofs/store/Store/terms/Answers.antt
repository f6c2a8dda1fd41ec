use Rattle.std.proofs.Common.{subst}
use Rattle.qs_store.specs.inner.Content.{KnowsItsTerms, AreLawful}
use Rattle.qs_store.proofs.Stored.{base_known, base_lawful}
use Rattle.qs_store.proofs.store.Store.terms.Goals as goal

pub returns-clause-known : goal.returns-clause-known
returns-clause-known c =
    let i = c.self.invariant in
    let s = c.self.inside in
    subst (λ v. KnowsItsTerms v.base) c.self.view_is (base_known s.dict.terms s.layers.base s.known s.next i.within i.known_base)

pub returns-clause-places : goal.returns-clause-places
returns-clause-places c =
    let i = c.self.invariant in
    let s = c.self.inside in
    subst (λ v. AreLawful v.base.quads) c.self.view_is (base_lawful s.dict.terms s.layers.base s.known i.within i.known_base)
