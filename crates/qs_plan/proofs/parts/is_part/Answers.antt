use Rattle.qs_plan.proofs.Apart.{triple_is_part}
use Rattle.qs_plan.proofs.parts.is_part.Goals as goal

pub returns-then-is_one_graph : goal.returns-then-is_one_graph
returns-then-is_one_graph c h =
    triple_is_part c.args.width c.args.stage.now c.in-Triple.look c.in-Triple.pattern c.in-Triple.is (c.is_one_graph.ensures c.if-is_one_graph.true) (c.are_named.ensures h)
