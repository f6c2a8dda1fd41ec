use Rattle.std.proofs.Common.{◌+◌, refl}
use Rattle.qs_plan.proofs.Taking.{part_last, part_past}
use Rattle.qs_plan.proofs.order.put_place.Goals as goal

pub returns-in_ok-push : goal.returns-in_ok-push
returns-in_ok-push c = part_last c.args.stages.now c.args.places.now.items c.push.new.self.items c.args.from c.args.at (c.args.from + c.args.at) refl c.in_ok-push.ensures.items

pub returns-else-is_within : goal.returns-else-is_within
returns-else-is_within c =
    part_past c.args.stages.now c.args.places.now.items c.args.from c.args.at (c.is_within.ensures.past c.if-is_within.false)
