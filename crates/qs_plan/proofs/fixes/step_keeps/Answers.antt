use Rattle.qs_plan.proofs.Fixed.{join_keeps, left_join_keeps, minus_keeps_step, extend_keeps}
use Rattle.qs_plan.proofs.fixes.step_keeps.Goals as goal

pub returns-in-Join : goal.returns-in-Join
returns-in-Join c h = join_keeps c.args.variable c.args.one.now c.in-Join.field-0 c.in-Join.is

pub returns-in-LeftJoin : goal.returns-in-LeftJoin
returns-in-LeftJoin c h = left_join_keeps c.args.variable c.args.one.now c.in-LeftJoin.field-0 c.in-LeftJoin.field-1 c.in-LeftJoin.is

pub returns-in-Minus : goal.returns-in-Minus
returns-in-Minus c h = minus_keeps_step c.args.variable c.args.one.now c.in-Minus.field-0 c.in-Minus.is

pub returns-in-Extend : goal.returns-in-Extend
returns-in-Extend c h = extend_keeps c.args.variable c.args.one.now c.in-Extend.other c.in-Extend.field-1 c.in-Extend.is h
