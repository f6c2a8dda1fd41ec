use Rattle.qs_ops_scans.proofs.Scanned.{rows_made}
use Rattle.qs_ops_scans.proofs.triples.triple_rows.Goals as goal

pub returns : goal.returns
returns g c p e =
    rw c.acts_of-acts.ensures
    (rows_made (g.V.View.content c.args.view.now) (g.V.View.default_seen c.args.view.now) c.args.graph c.args.pattern.now c.args.row p c.scan_of-scan.result c.content_is_lawful.ensures c.scan_of-scan.ensures e)
