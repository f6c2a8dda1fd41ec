use Rattle.std.proofs.Common.{◌==◌, ap, sym, subst, ◌∙◌}
use Rattle.std.specs.List.{list_any}
use Rattle.qs_plan.specs.inner.Reads.{LeaveAll}
use Rattle.qs_plan.proofs.Leaving.{not_true, differs, triple_leaves, path_leaves, names_leave, name_leaves, filter_leaves, bind_leaves, values_leave, union_leaves, optional_leaves, fed_leaves, apart_leaves, more_leave}
use Rattle.qs_plan.proofs.leaves.+leaves.Goals as goal

pub leave_all-loop-stage-preserved : goal.leave_all-loop-stage-preserved
leave_all-loop-stage-preserved t c =
    more_leave c.args.variable c.args.stages.now c.loop-stage.stage-index c.stage-item.result c.loop-stage-test.true c.stage-item.is c.loop-stage.invariant (c.leaves.ensures c.if-not-leaves.false)

pub leaves-returns-in-Triple : goal.leaves-returns-in-Triple
leaves-returns-in-Triple t c h = triple_leaves c.args.variable c.args.stage.now _ c.in-Triple.pattern c.in-Triple.is (c.triple_misses.ensures h)

pub leaves-returns-in-Path : goal.leaves-returns-in-Path
leaves-returns-in-Path t c h = path_leaves c.args.variable c.args.stage.now _ c.in-Path.pattern c.in-Path.is (c.path_misses.ensures h)

pub leaves-returns-in-Names : goal.leaves-returns-in-Names
leaves-returns-in-Names t c h = names_leave c.args.variable c.args.stage.now c.in-Names.register c.in-Names.is (differs c.in-Names.register c.args.variable h)

pub leaves-returns-in-Name : goal.leaves-returns-in-Name
leaves-returns-in-Name t c h = name_leaves c.args.variable c.args.stage.now c.in-Name.other c.in-Name.field-1 c.in-Name.is (not_true (c.in-Name.other == c.args.variable) h)

pub leaves-returns-in-Filter : goal.leaves-returns-in-Filter
leaves-returns-in-Filter t c h = filter_leaves c.args.variable c.args.stage.now _ c.in-Filter.is

pub leaves-returns-in-Bind : goal.leaves-returns-in-Bind
leaves-returns-in-Bind t c h = bind_leaves c.args.variable c.args.stage.now c.in-Bind.other _ c.in-Bind.is (differs c.in-Bind.other c.args.variable h)

pub leaves-returns-in-Values : goal.leaves-returns-in-Values
leaves-returns-in-Values t c h =
    values_leave c.args.variable c.args.stage.now c.in-Values.table c.in-Values.is
    (ap (λ x. list_any (λ w. w == c.args.variable) x.variables) (sym c.get.ensures) ∙ (sym c.has_column.ensures ∙ not_true c.has_column.result h))

pub leaves-returns-in-Union : goal.leaves-returns-in-Union
leaves-returns-in-Union t c h = union_leaves c.args.variable c.args.stage.now c.in-Union.branches c.as_slice.result.now c.in-Union.is c.as_slice.ensures (c.leave_branches.ensures h)

pub leaves-returns-then-is_other : goal.leaves-returns-then-is_other
leaves-returns-then-is_other t c h =
    optional_leaves c.args.variable c.args.stage.now c.in-Optional.register c.in-Optional.group c.in-Optional.field-2 c.in-Optional.is
    (subst (LeaveAll c.args.variable) c.as_slice-then-is_other.ensures (c.leave_all.ensures h)) (c.is_other.ensures c.if-is_other.true)

pub leaves-returns-in-Fed : goal.leaves-returns-in-Fed
leaves-returns-in-Fed t c h =
    fed_leaves c.args.variable c.args.stage.now c.in-Fed.group c.in-Fed.field-1 c.in-Fed.is
    (subst (LeaveAll c.args.variable) c.as_slice-in-Fed.ensures (c.leave_all-in-Fed.ensures h))

pub leaves-returns-then-is_other-2 : goal.leaves-returns-then-is_other-2
leaves-returns-then-is_other-2 t c h =
    apart_leaves c.args.variable c.args.stage.now c.in-Apart.register c.in-Apart.group c.in-Apart.is
    (subst (LeaveAll c.args.variable) c.as_slice-then-is_other-2.ensures (c.leave_all-then-is_other-2.ensures h)) (c.is_other-in-Apart.ensures c.if-is_other-2.true)
