use Rattle.std.proofs.Common.{drop, subst}
use Rattle.qs_plan.specs.inner.Slots.{Clears, stages_at}
use Rattle.qs_plan.proofs.Taking.{cleared_put, kept_put}
use Rattle.qs_plan.proofs.order.put_at.Goals as goal

pub returns-in_ok-put_place : goal.returns-in_ok-put_place
returns-in_ok-put_place c =
    cleared_put c.args.run.register (drop c.args.run.from c.args.stages.now) c.args.left.now.items c.take_flag.new.left.items c.args.at (stages_at c.args.stages.now c.args.places.now.items) (stages_at c.args.stages.now c.put_place.new.places.items) c.requires
    (subst (λ b. Clears b c.args.at c.args.left.now.items c.take_flag.new.left.items) c.if-take_flag.true c.take_flag.ensures) c.in_ok-put_place.ensures

pub returns-else-take_flag : goal.returns-else-take_flag
returns-else-take_flag c =
    kept_put c.args.run.register (drop c.args.run.from c.args.stages.now) c.args.left.now.items c.take_flag.new.left.items c.args.at (stages_at c.args.stages.now c.args.places.now.items) c.requires
    (subst (λ b. Clears b c.args.at c.args.left.now.items c.take_flag.new.left.items) c.if-take_flag.false c.take_flag.ensures)
