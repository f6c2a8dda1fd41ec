use Rattle.std.proofs.Common.{drop}
use Rattle.qs_plan.specs.inner.Slots.{stages_at, stages_left}
use Rattle.qs_plan.proofs.Taking.{more_put}
use Rattle.qs_plan.proofs.order.put_chosen.Goals as goal

pub loop-at-preserved : goal.loop-at-preserved
loop-at-preserved c =
    let ss = drop c.args.run.from c.args.stages.now in
    more_put c.args.run.register (stages_at c.args.stages.now c.args.places.now.items) (stages_left ss c.args.left.now.items) (stages_at c.args.stages.now c.loop-at.places.items) (stages_left ss c.loop-at.left.items) (stages_at c.args.stages.now c.put_at.new.places.items) (stages_left ss c.put_at.new.left.items) c.loop-at.invariant c.in_ok-put_at.ensures
