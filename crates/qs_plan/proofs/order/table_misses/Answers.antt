use Rattle.std.proofs.Common.{◌∙◌, sym}
use Rattle.qs_plan.proofs.Leaving.{not_true}
use Rattle.qs_plan.proofs.Tables.{misses_some}
use Rattle.qs_plan.proofs.order.table_misses.Goals as goal

pub returns-in-Some : goal.returns-in-Some
returns-in-Some c h =
    misses_some c.args.register c.in-Some.register c.args.table.now.variables c.in-Some.is (sym c.has_column.ensures ∙ not_true c.has_column.result h)
