use Rattle.qs_plan.proofs.Planned.{planned}
use Rattle.qs_plan.proofs.planner.text_order.Goals as goal

pub returns : goal.returns
returns c = planned _ c.args.pattern.now c.len-width.ensures (c.is_row.ensures c.if-not-is_row.false) c.in_ok-laid.ensures
