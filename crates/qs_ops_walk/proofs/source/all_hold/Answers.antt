use Rattle.std.proofs.Common.{take, sym, ◌∙◌}
use Rattle.qs_expr.specs.inner.Cell.{row_solution}
use Rattle.qs_ops_walk.specs.inner.Setting.{known_of}
use Rattle.qs_ops_walk.proofs.Conditions.{conditions_fail, conditions_more}
use Rattle.qs_ops_walk.proofs.source.all_hold.Goals as goal

pub returns-then-not-branch : goal.returns-then-not-branch
returns-then-not-branch g c =
    let m = take c.args.reader.now.width (row_solution (known_of c.args.reader.now) c.args.scratch.now c.args.row.now) in
    let e = rw c.deref-condition-items.ensures.value at c.condition-item.is in
    let l = rw c.deref-condition-items.ensures.value at c.loop-condition-test.true in
    sym (conditions_fail m c.args.conditions.now.list.items c.loop-condition.condition-index c.condition-item.result l e (sym c.in_ok-holds.ensures ∙ c.if-not-branch.true))

pub loop-condition-preserved : goal.loop-condition-preserved
loop-condition-preserved g c =
    let m = take c.args.reader.now.width (row_solution (known_of c.args.reader.now) c.args.scratch.now c.args.row.now) in
    let e = rw c.deref-condition-items.ensures.value at c.condition-item.is in
    let l = rw c.deref-condition-items.ensures.value at c.loop-condition-test.true in
    conditions_more m c.args.conditions.now.list.items c.loop-condition.condition-index c.condition-item.result l e c.loop-condition.invariant (sym c.in_ok-holds.ensures ∙ c.if-not-branch.false)
