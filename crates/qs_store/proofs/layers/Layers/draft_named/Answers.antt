use Rattle.std.proofs.Common.{◌+◌, ◌≤◌, length, get_or, take, refl, sym, subst, arith, ◌∙◌}
use Rattle.qs_store.specs.inner.Copied.{AreInGraphs}
use Rattle.qs_store.proofs.Copied.{one_graph_more, all_named, all_taken}
use Rattle.qs_store.proofs.layers.Layers.draft_named.Goals as goal

pub loop-graph-preserved : goal.loop-graph-preserved
loop-graph-preserved c =
    let gs = c.deref-graph-items.result.now in
    let i = c.loop-graph.graph-index in
    let entries = c.args.self.now.draft in
    subst (AreInGraphs entries (take (i + 1) gs)) (sym c.in_ok-append.ensures.items)
    (one_graph_more entries c.loop-graph.found.items c.in_ok-more.more.items gs i (get_or gs i 0) c.requires c.loop-graph-test.true refl c.loop-graph.invariant c.in_ok-more.ensures)

pub returns : goal.returns
returns c =
    let gs = c.deref-graph-items.result.now in
    let i = c.loop-graph.graph-index in
    let within : i ≤ length gs = omega arith in
    all_named c.args.self.now.draft c.loop-graph.found.items c.in_ok-graphs.graphs.items (take i gs) c.in_ok-graphs.ensures
    (all_taken i gs within c.loop-graph-test.false ∙ c.deref-graph-items.ensures.value) c.loop-graph.invariant
