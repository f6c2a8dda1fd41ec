use Rattle.std.proofs.Common.{subst}
use Rattle.qs_store.specs.inner.Triples.{AreTriplesAnyhow}
use Rattle.qs_store.proofs.TriplesSaid.{store_triples_anyhow}
use Rattle.qs_store.proofs.store.Store.scan_with_lead.Goals as goal

pub returns : goal.returns
returns c =
    let s = c.self.inside in
    let i = c.self.invariant in
    let a = c.args in
    subst (λ v. AreTriplesAnyhow v.base v.default_graph a.active a.subject a.predicate a.object c.scan_with_lead.result) c.self.view_is
    (store_triples_anyhow s.dict.terms s.layers.base c.scan_with_lead.result s.known s.next s.default_graph c.graphs_of-graphs.result a.active a.subject a.predicate a.object i.distinct i.within i.known_base
    c.graphs_of-graphs.ensures c.scan_with_lead.ensures)
