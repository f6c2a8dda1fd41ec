use Rattle.std.proofs.Common.{subst}
use Rattle.qs_store.specs.inner.NamedQuads.{AreNamedQuads}
use Rattle.qs_store.proofs.NamedQuadsSaid.{store_named_quads}
use Rattle.qs_store.proofs.store.Store.scan_named.Goals as goal

pub returns : goal.returns
returns c =
    let s = c.self.inside in
    let i = c.self.invariant in
    let a = c.args in
    subst (λ v. AreNamedQuads v.base a.subject a.predicate a.object c.scan_named.result) c.self.view_is
    (store_named_quads s.dict.terms s.layers.base c.scan_named.result s.known s.next a.subject a.predicate a.object i.distinct i.within i.known_base c.scan_named.ensures)
