use Rattle.qs_plan.proofs.Planned.{still_planned}
use Rattle.qs_plan.proofs.planner.plan_for.Goals as goal

pub returns-clause-plan : goal.returns-clause-plan
returns-clause-plan g c =
    still_planned c.in_ok-plan-4.plan c.in_ok-plan-3.plan c.args.pattern.now c.in_ok-plan-4.ensures
    (still_planned c.in_ok-plan-3.plan c.in_ok-plan-2.plan c.args.pattern.now c.in_ok-plan-3.ensures
    (still_planned c.in_ok-plan-2.plan c.in_ok-plan.plan c.args.pattern.now c.in_ok-plan-2.ensures c.in_ok-plan.ensures))
