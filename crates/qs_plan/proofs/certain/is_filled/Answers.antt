use Rattle.std.proofs.Common.{sym, ◌∙◌}
use Rattle.qs_plan.proofs.Getting.{table_filled}
use Rattle.qs_plan.proofs.certain.is_filled.Goals as goal

pub returns : goal.returns
returns c h =
    table_filled c.args.variable c.args.width c.args.table.now c.as_slice-columns.result.now c.as_slice-rows.result.now c.loop-row.row-index c.if-variable-width.false
    (sym c.has_column.ensures ∙ c.if-not-has_column.false) c.as_slice-columns.ensures c.as_slice-rows.ensures c.loop-row-test.false c.loop-row.invariant
