use Rattle.std.proofs.Common.{drop, slice_get}
use Rattle.qs_plan.specs.inner.Slots.{stages_at}
use Rattle.qs_plan.proofs.Taking.{set_put, unset_put}
use Rattle.qs_plan.proofs.order.put_flagged.Goals as goal

pub returns-in_ok-put_place : goal.returns-in_ok-put_place
returns-in_ok-put_place c =
    set_put c.args.is_left (stages_at c.args.stages.now c.put_place.new.places.items) (stages_at c.args.stages.now c.args.places.now.items) (slice_get (drop c.args.from c.args.stages.now) c.args.at) c.if-is_left.true c.in_ok-put_place.ensures

pub returns-else-is_left : goal.returns-else-is_left
returns-else-is_left c = unset_put c.args.is_left (stages_at c.args.stages.now c.args.places.now.items) (slice_get (drop c.args.from c.args.stages.now) c.args.at) c.if-is_left.false
