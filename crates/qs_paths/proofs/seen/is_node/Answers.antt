use Rattle.std.proofs.Common.{sym, arith}
use Rattle.qs_paths.proofs.Scanned.{past_no_node, tells_begin, tells_end}
use Rattle.qs_paths.proofs.seen.is_node.Goals as goal

pub returns-then-node : goal.returns-then-node
returns-then-node g c name n =
    sym (past_no_node (g.V.View.content c.args.view.now) (g.V.View.default_seen c.args.view.now) c.args.active c.is_lawful.ensures.seen.lawful c.is_lawful.ensures.seen.knows name n c.is_lawful.ensures.few c.args.node (omega (arith, c.if-node.true)))

pub returns-then-is_some : goal.returns-then-is_some
returns-then-is_some g c name n =
    tells_begin (g.V.View.content c.args.view.now) (g.V.View.default_seen c.args.view.now) c.args.active c.is_lawful.ensures.seen.lawful c.is_lawful.ensures.seen.knows name n c.args.node c.scan-from.result c.next.new.self c.next.result c.is_some.result
    c.scan-from.ensures c.next.ensures.steps c.is_some.ensures c.if-is_some.true

pub returns : goal.returns
returns g c name n =
    tells_end (g.V.View.content c.args.view.now) (g.V.View.default_seen c.args.view.now) c.args.active c.is_lawful.ensures.seen.lawful c.is_lawful.ensures.seen.knows name n c.args.node c.scan-from.result c.next.new.self c.scan-to.result c.next-2.new.self c.next.result c.next-2.result c.is_some.result c.is_some-2.result
    c.scan-from.ensures c.scan-to.ensures c.next.ensures.steps c.next-2.ensures.steps c.is_some.ensures c.is_some-2.ensures c.if-is_some.false
