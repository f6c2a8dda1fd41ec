use Rattle.qs_ops_scans.proofs.Looks.{look_is}
use Rattle.qs_ops_scans.proofs.look.graph_of_look.Goals as goal

pub returns : goal.returns
returns g c place table e is_table h =
    rw c.graph_by.ensures (look_is (g.V.View.content c.args.view.now) (g.V.View.default_seen c.args.view.now) c.content_is_lawful.ensures c.args.look place table c.args.row.now c.args.active e is_table h)
