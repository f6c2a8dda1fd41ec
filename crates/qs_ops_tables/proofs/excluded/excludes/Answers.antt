use Rattle.std.proofs.Common.{◌∙◌, sym}
use Rattle.qs_ops_tables.proofs.Excluding.{excludes_apart, excludes_next, excludes_end}
use Rattle.qs_ops_tables.proofs.excluded.excludes.Goals as goal

pub returns-in_default : goal.returns-in_default
returns-in_default c =
    sym (c.loop-variable.invariant
    ∙ excludes_apart c.args.width c.args.row.now c.args.other.now c.loop-variable.shared c.loop-variable.variable (rw (c.min-variable-end.ensures, c.width.ensures) at c.loop-variable-test.true)
    (rw (c.cell.ensures, c.cell-in-loop-variable.ensures) at (sym c.share_next.ensures ∙ c.in_default.is)))

pub loop-variable-preserved : goal.loop-variable-preserved
loop-variable-preserved c =
    c.loop-variable.invariant
    ∙ excludes_next c.args.width c.args.row.now c.args.other.now c.loop-variable.shared c.in-Some.next c.loop-variable.variable (rw (c.min-variable-end.ensures, c.width.ensures) at c.loop-variable-test.true)
    (rw (c.cell.ensures, c.cell-in-loop-variable.ensures) at (sym c.share_next.ensures ∙ c.in-Some.is))

pub returns : goal.returns
returns c =
    sym (c.loop-variable.invariant ∙ excludes_end c.args.width c.args.row.now c.args.other.now c.loop-variable.shared c.loop-variable.variable (rw (c.min-variable-end.ensures, c.width.ensures) at c.loop-variable-test.false))
