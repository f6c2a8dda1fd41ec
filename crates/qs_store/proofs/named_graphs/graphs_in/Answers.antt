use Rattle.std.proofs.Common.{sym, subst}
use Rattle.qs_store.specs.inner.Holding.{AreGraphsUpTo}
use Rattle.qs_store.proofs.Holding.{up_to_more, next_in, graph_stands}
use Rattle.qs_store.proofs.named_graphs.graphs_in.Goals as goal

pub graphs-preserved : goal.graphs-preserved
graphs-preserved c =
    let entries = c.args.index.now.entries in
    let after = c.graphs.after in
    let g = c.in-Some.graph in
    subst (AreGraphsUpTo entries g) (sym c.in_ok-push.ensures.items)
    (up_to_more entries after g c.graphs.graphs.items c.graphs.invariant (next_in entries after g c.in-Some.ensures.next) (graph_stands entries after g c.in-Some.ensures.next))
