use Rattle.std.proofs.Common.{[], ◌+◌, arith}
use Rattle.qs_plan.proofs.Getting.{same_number, triple_gets, path_gets, names_get, values_get, union_gets, apart_gets, binds_all, gets_at, name_at}
use Rattle.qs_plan.proofs.certain.+binds.Goals as goal

pub gets-returns-then-variable-size : goal.gets-returns-then-variable-size
gets-returns-then-variable-size t c h = triple_gets c.args.variable c.args.size c.args.stage.now c.in-Triple.field-0 c.in-Triple.pattern c.in-Triple.is c.if-variable-size.true (c.triple_holds.ensures h)

pub gets-returns-then-variable-size-2 : goal.gets-returns-then-variable-size-2
gets-returns-then-variable-size-2 t c h = path_gets c.args.variable c.args.size c.args.stage.now c.in-Path.field-0 c.in-Path.pattern c.in-Path.is c.if-variable-size-2.true (c.path_ends.ensures h)

pub gets-returns-then-variable-size-3 : goal.gets-returns-then-variable-size-3
gets-returns-then-variable-size-3 t c h = names_get c.args.variable c.args.size c.args.stage.now c.in-Names.register c.in-Names.is c.if-variable-size-3.true (same_number c.in-Names.register c.args.variable h)

pub gets-returns-in-Values : goal.gets-returns-in-Values
gets-returns-in-Values t c h = values_get c.args.variable c.args.size c.args.stage.now c.in-Values.table c.get.result.now c.in-Values.is c.get.ensures (c.is_filled.ensures h)

pub gets-returns-in-Union : goal.gets-returns-in-Union
gets-returns-in-Union t c h = union_gets c.args.variable c.args.size c.args.stage.now c.in-Union.branches c.as_slice.result.now c.in-Union.is c.as_slice.ensures (c.bound_in_each.ensures h)

pub gets-returns-then-variable-size-4 : goal.gets-returns-then-variable-size-4
gets-returns-then-variable-size-4 t c h =
    apart_gets c.args.variable c.args.size c.args.stage.now c.in-Apart.field-0 c.in-Apart.group c.as_slice-then-variable-size-4.result.now c.in-Apart.is c.as_slice-then-variable-size-4.ensures c.if-variable-size-4.true (c.is_bound.ensures h)

pub is_bound-returns-then-is_bound_after : goal.is_bound-returns-then-is_bound_after
is_bound-returns-then-is_bound_after t c h = binds_all c.args.variable c.args.size [] c.args.stages.now (c.loop-at.at + 1) (c.is_bound_after.ensures c.if-is_bound_after.true)

pub is_bound_after-returns-in_default : goal.is_bound_after-returns-in_default
is_bound_after-returns-in_default t c h = gets_at c.args.variable c.args.size [] c.args.stages.now c.args.at c.index-stages-at.result c.requires c.index-stages-at.is (c.gets.ensures h)

pub is_bound_after-returns-else-other-variable : goal.is_bound_after-returns-else-other-variable
is_bound_after-returns-else-other-variable t c h =
    name_at c.args.variable c.args.size c.args.stages.now c.args.at c.in-Name.other c.in-Name.register c.index-stages-at.result c.requires c.index-stages-at.is c.in-Name.is c.if-other-variable.false (omega (arith, c.if-variable-size.false)) (c.is_named.ensures h)
