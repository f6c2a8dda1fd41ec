use Rattle.std.proofs.Common.{subst}
use Rattle.qs_store.specs.inner.Graphs.{AreGraphs}
use Rattle.qs_store.proofs.GraphsSaid.{draft_graphs_said, have_four}
use Rattle.qs_store.proofs.store.Store.draft_graphs.Goals as goal

pub draft_graphs-requires : goal.draft_graphs-requires
draft_graphs-requires c = have_four c.self.inside.dict.terms c.self.inside.layers.draft c.self.invariant.known_draft

pub returns-clause-graphs : goal.returns-clause-graphs
returns-clause-graphs c =
    let s = c.self.inside in
    let i = c.self.invariant in
    let found = c.in_ok-graphs.graphs.items in
    subst (λ v. AreGraphs v.draft found) c.self.view_is (draft_graphs_said s.dict.terms s.layers.draft s.draft_next found i.distinct i.known_draft c.in_ok-graphs.ensures)
