use Rattle.std.proofs.Common.{◌∙◌, sym}
use Rattle.qs_expr.proofs.Compacts.{agree_not, agree_on, agree_over}
use Rattle.qs_expr.proofs.compact.are_compatible.Goals as goal

pub returns-then-not-agree : goal.returns-then-not-agree
returns-then-not-agree c =
    sym (agree_not c.args.cells.now c.args.others.now _ c.loop-variable.variable (rw c.min-variable-end.ensures at c.loop-variable-test.true) c.loop-variable.invariant
    (rw (c.cell_of.ensures, c.cell_of-in-loop-variable.ensures) at (sym c.agree.ensures ∙ c.if-not-agree.true)))

pub loop-variable-preserved : goal.loop-variable-preserved
loop-variable-preserved c =
    agree_on c.args.cells.now c.args.others.now _ c.loop-variable.variable (rw c.min-variable-end.ensures at c.loop-variable-test.true) c.loop-variable.invariant
    (rw (c.cell_of.ensures, c.cell_of-in-loop-variable.ensures) at (sym c.agree.ensures ∙ c.if-not-agree.false))

pub returns : goal.returns
returns c = sym (c.loop-variable.invariant ∙ agree_over c.args.cells.now c.args.others.now c.loop-variable.variable (rw c.min-variable-end.ensures at c.loop-variable-test.false))
