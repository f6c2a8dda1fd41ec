use Rattle.qs_ops_scans.proofs.GraphNodes.{scratch_node}
use Rattle.qs_ops_scans.proofs.nodes.is_node.Goals as goal

pub returns-in-Scratch : goal.returns-in-Scratch
returns-in-Scratch g c = rw c.in-Scratch.is (scratch_node (g.V.View.content c.args.view.now) (g.V.View.default_seen c.args.view.now) c.args.graph c.content_is_lawful.ensures c.in-Scratch.field-0)
