use Rattle.qs_store.specs.inner.ActiveGraph.{active_graph}
use Rattle.qs_ops_scans.proofs.Collected.{pairs_are}
use Rattle.qs_ops_scans.proofs.Spans.{pairs_moved}
use Rattle.qs_ops_scans.proofs.kept.path_pairs.Goals as goal

pub returns-clause-pairs : goal.returns-clause-pairs
returns-clause-pairs g c =
    let content = g.V.View.content c.args.view.now in
    let graph = active_graph content (g.V.View.default_seen c.args.view.now) c.args.graph in
    pairs_moved content.known c.end_cell-2.new.scratch c.in_ok-cells.cells.items c.in_order.result _ c.in_order.ensures
    (pairs_are g.V.View.content g.V.View.default_seen content.known c.args.scratch.now c.end_cell.new.scratch c.end_cell-2.new.scratch c.args.pattern.now graph c.pairs-found.result c.in_ok-left.left c.in_ok-right.right c.in_ok-cells.cells.items
    c.pairs-found.ensures.known c.in_ok-left.ensures.grows c.in_ok-right.ensures.grows c.in_ok-left.ensures.is c.in_ok-left.ensures.fits c.in_ok-right.ensures.is c.in_ok-right.ensures.fits
    (rw c.get.ensures at c.pairs-found.ensures.pairs) (rw c.is_repeated.ensures at c.in_ok-cells.ensures))
