use Rattle.qs_ops_scans.proofs.GraphNodes.{begins_node, ends_node}
use Rattle.qs_ops_scans.proofs.nodes.is_known_node.Goals as goal

pub returns-then-is_some : goal.returns-then-is_some
returns-then-is_some g c =
    begins_node (g.V.View.content c.args.view.now) (g.V.View.default_seen c.args.view.now) c.args.graph c.content_is_lawful.ensures c.numbers_are_few.ensures c.args.number c.scan-from.result c.next.new.self c.next.result c.is_some.result
    c.scan-from.ensures c.next.ensures.steps c.is_some.ensures c.if-is_some.true

pub returns : goal.returns
returns g c =
    ends_node (g.V.View.content c.args.view.now) (g.V.View.default_seen c.args.view.now) c.args.graph c.content_is_lawful.ensures c.numbers_are_few.ensures c.args.number c.scan-from.result c.next.new.self c.scan-to.result c.next-2.new.self c.next.result c.next-2.result c.is_some.result c.is_some-2.result
    c.scan-from.ensures c.scan-to.ensures c.next.ensures.steps c.next-2.ensures.steps c.is_some.ensures c.is_some-2.ensures c.if-is_some.false
