use Rattle.std.proofs.Common.{subst}
use Rattle.qs_store.specs.inner.Triples.{AreTriples}
use Rattle.qs_store.proofs.TriplesSaid.{store_triples}
use Rattle.qs_store.proofs.store.Store.scan.Goals as goal

pub returns : goal.returns
returns c =
    let s = c.self.inside in
    let i = c.self.invariant in
    let a = c.args in
    subst (λ v. AreTriples v.base v.default_graph a.active a.subject a.predicate a.object c.scan.result) c.self.view_is
    (store_triples s.dict.terms s.layers.base c.scan.result s.known s.next s.default_graph c.graphs_of-graphs.result a.active a.subject a.predicate a.object i.distinct i.within i.known_base
    c.graphs_of-graphs.ensures c.scan.ensures)
