use Rattle.qs_plan.proofs.Placing.{parted_more}
use Rattle.qs_plan.proofs.filters.parted.Goals as goal

pub loop-condition-preserved : goal.loop-condition-preserved
loop-condition-preserved c =
    parted_more c.args.size c.args.stages.now c.args.conditions.now c.loop-condition.condition-index c.condition-item.result c.in_ok-condition.condition c.get.result.now c.loop-condition.inside c.loop-condition.after c.put_parted.new.inside c.put_parted.new.after c.in_ok-is_in.is_in
    c.loop-condition-test.true c.condition-item.is c.in_ok-condition.ensures c.get.ensures c.in_ok-is_in.ensures c.in_ok-put_parted.ensures.inside c.in_ok-put_parted.ensures.after c.loop-condition.invariant
