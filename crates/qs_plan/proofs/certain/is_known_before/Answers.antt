use Rattle.std.proofs.Common.{[], ◌+◌, take, arith}
use Rattle.qs_plan.proofs.Getting.{given_binds, given_none, binds_to}
use Rattle.qs_plan.proofs.certain.is_known_before.Goals as goal

pub returns-then-is_among : goal.returns-then-is_among
returns-then-is_among c h = given_binds c.args.variable c.args.size c.args.given.now (take c.args.place c.args.stages.now) (c.is_among.ensures c.if-is_among.true)

pub returns-then-is_bound_after : goal.returns-then-is_bound_after
returns-then-is_bound_after c h =
    given_none c.args.variable c.args.size c.args.given.now (take c.args.place c.args.stages.now)
    (binds_to c.args.variable c.args.size [] c.args.stages.now (c.loop-at.at + 1) c.args.place (omega (arith, c.loop-at-test.true)) (c.is_bound_after.ensures c.if-is_bound_after.true))
