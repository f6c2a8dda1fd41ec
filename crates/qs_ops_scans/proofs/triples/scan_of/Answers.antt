use Rattle.std.proofs.Common.{sym}
use Rattle.qs_ops_scans.proofs.triples.scan_of.Goals as goal

pub returns : goal.returns
returns g c =
    rw (sym c.givens.ensures)
    (c.asked-graph.ensures (g.V.View.content c.args.view.now) (g.V.View.default_seen c.args.view.now) c.scan_with_lead.result c.scan_with_lead.ensures)
