use Rattle.std.specs.Option.{option_copied}
use Rattle.qs_expr.specs.inner.Cell.{row_solution}
use Rattle.qs_query_solutions.proofs.Fronts.{column_more, columns_whole}
use Rattle.qs_query_solutions.proofs.terms.projected.Goals as goal

pub loop-at-preserved : goal.loop-at-preserved
loop-at-preserved g c =
    column_more c.args.columns.now (row_solution c.args.op.now.known c.args.op.now.table c.args.row.now) c.loop-at.at c.loop-at.solution c.bind.new.solution (option_copied c.term.result) c.loop-at-test.true c.loop-at.invariant c.term.ensures c.in_ok-bind.ensures

pub returns : goal.returns
returns g c =
    columns_whole c.args.columns.now (row_solution c.args.op.now.known c.args.op.now.table c.args.row.now) c.loop-at.at c.loop-at.solution c.loop-at.invariant c.loop-at.auto.at-end c.loop-at-test.false
