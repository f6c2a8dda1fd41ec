use Rattle.std.proofs.Common.{refl}
use Rattle.qs_plan.proofs.Placing.{waited_more, waiting_more}
use Rattle.qs_plan.proofs.filters.put_placed.Goals as goal

pub returns-in_ok-put_condition-in-Filter : goal.returns-in_ok-put_condition-in-Filter
returns-in_ok-put_condition-in-Filter c =
    waiting_more c.args.size c.args.waiting.now c.put_condition.new.waiting c.args.done.now c.args.one c.in-Filter.condition c.in-Filter.condition c.in-Filter.is refl c.in_ok-put_condition-in-Filter.ensures

pub returns-in_ok-push-in_default : goal.returns-in_ok-push-in_default
returns-in_ok-push-in_default c =
    waited_more c.args.size c.args.waiting.now c.put_waiting.new.waiting c.args.done.now c.put_waiting.new.done c.push.new.self c.args.one c.in_ok-put_waiting-in_default.ensures.none c.in_ok-put_waiting-in_default.ensures.same c.in_ok-push-in_default.ensures.ok
