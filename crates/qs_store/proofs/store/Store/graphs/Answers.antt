use Rattle.std.proofs.Common.{subst}
use Rattle.qs_store.specs.inner.Graphs.{AreGraphs}
use Rattle.qs_store.proofs.GraphsSaid.{store_graphs_said}
use Rattle.qs_store.proofs.store.Store.graphs.Goals as goal

pub returns-clause-graphs : goal.returns-clause-graphs
returns-clause-graphs c =
    let s = c.self.inside in
    let i = c.self.invariant in
    let found = c.in_ok-graphs.graphs.items in
    subst (λ v. AreGraphs v.base found) c.self.view_is (store_graphs_said s.dict.terms s.layers.base s.known s.next found i.distinct i.within i.known_base c.in_ok-graphs.ensures)
