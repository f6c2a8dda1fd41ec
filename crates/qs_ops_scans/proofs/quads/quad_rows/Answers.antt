use Rattle.qs_ops_scans.proofs.EachGraph.{quads_made}
use Rattle.qs_ops_scans.proofs.quads.quad_rows.Goals as goal

pub returns : goal.returns
returns g c p e =
    rw c.acts_of-acts.ensures
    (quads_made (g.V.View.content c.args.view.now) c.args.register c.args.pattern.now c.args.row p c.quads_of-scan.result c.content_is_lawful.ensures c.quads_of-scan.ensures c.requires.apart c.requires.cell e)
