use Rattle.std.proofs.Common.{sym, ◌∙◌, subst}
use Rattle.qs_store.specs.inner.ActiveGraph.{active_graph}
use Rattle.qs_ops_scans.specs.inner.Paths.{Serve}
use Rattle.qs_ops_scans.proofs.FedPairs.{fed_found, fed_left, fed_right}
use Rattle.qs_ops_scans.proofs.fed.fed_pairs.Goals as goal

pub returns-in_default-clause-serve : goal.returns-in_default-clause-serve
returns-in_default-clause-serve g c =
    let content = g.V.View.content c.args.view.now in
    let graph = active_graph content (g.V.View.default_seen c.args.view.now) c.args.graph in
    fed_left content.known c.args.scratch.now c.end_cell.new.scratch c.end_cell-2.new.scratch c.args.pattern.now graph c.in_ok-left.left c.in_ok-right.right c.args.ends
    c.in_ok-left.ensures.grows c.in_ok-right.ensures.grows c.in_ok-left.ensures.is c.in_ok-left.ensures.fits c.in_ok-right.ensures.is c.in_ok-right.ensures.fits c.requires.subject c.requires.object
    (rw c.in_default.is at c.given_end.ensures) c.unordered.result (c.unordered.ensures ∙ c.new.ensures.items)

pub returns-in_default-given_end-clause-serve : goal.returns-in_default-given_end-clause-serve
returns-in_default-given_end-clause-serve g c =
    let content = g.V.View.content c.args.view.now in
    let graph = active_graph content (g.V.View.default_seen c.args.view.now) c.args.graph in
    fed_right content.known c.args.scratch.now c.end_cell.new.scratch c.end_cell-2.new.scratch c.args.pattern.now graph c.in_ok-left.left c.in_ok-right.right c.args.ends
    c.in_ok-left.ensures.grows c.in_ok-right.ensures.grows c.in_ok-left.ensures.is c.in_ok-left.ensures.fits c.in_ok-right.ensures.is c.in_ok-right.ensures.fits c.requires.subject c.requires.object
    (rw c.in_default-given_end.is at c.given_end-2.ensures) c.unordered-in_default-given_end.result (c.unordered-in_default-given_end.ensures ∙ c.new-in_default-given_end.ensures.items)

pub returns-clause-serve : goal.returns-clause-serve
returns-clause-serve g c =
    let content = g.V.View.content c.args.view.now in
    let graph = active_graph content (g.V.View.default_seen c.args.view.now) c.args.graph in
    subst (Serve content.known c.end_cell-2.new.scratch c.args.pattern.now graph c.args.ends) (sym c.unordered-2.ensures)
    (fed_found content.known c.args.scratch.now c.end_cell.new.scratch c.end_cell-2.new.scratch c.args.pattern.now graph c.in_ok-left.left c.in_ok-right.right c.args.ends
    c.in_ok-left.ensures.grows c.in_ok-right.ensures.grows c.in_ok-left.ensures.is c.in_ok-left.ensures.fits c.in_ok-right.ensures.is c.in_ok-right.ensures.fits c.requires.subject c.requires.object
    g.V.View.content g.V.View.default_seen c.pairs-found.result c.in-Some.subject c.in-Some-given_end.object c.in_ok-cells.cells.items c.pairs-found.ensures.known
    (rw c.in-Some.is at c.given_end.ensures) (rw c.in-Some-given_end.is at c.given_end-2.ensures)
    (rw c.get.ensures at c.pairs-found.ensures.pairs) (rw c.is_repeated.ensures at c.in_ok-cells.ensures))
