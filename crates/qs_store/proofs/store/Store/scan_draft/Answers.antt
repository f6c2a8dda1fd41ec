use Rattle.std.proofs.Common.{subst}
use Rattle.qs_store.specs.inner.Triples.{AreTriples}
use Rattle.qs_store.proofs.TriplesSaid.{draft_triples}
use Rattle.qs_store.proofs.store.Store.scan_draft.Goals as goal

pub returns : goal.returns
returns c =
    let s = c.self.inside in
    let i = c.self.invariant in
    let a = c.args in
    subst (λ v. AreTriples v.draft v.default_graph a.active a.subject a.predicate a.object c.scan_draft.result) c.self.view_is
    (draft_triples s.dict.terms s.layers.draft c.scan_draft.result s.draft_next s.default_graph c.graphs_of-graphs.result a.active a.subject a.predicate a.object i.distinct i.known_draft
    c.graphs_of-graphs.ensures c.scan_draft.ensures)
