use Rattle.std.proofs.Common.{sym}
use Rattle.qs_expr.specs.inner.Cell.{row_solution}
use Rattle.qs_expr.proofs.RowTerms.{term_read}
use Rattle.qs_expr.proofs.part.is_among.Goals as goal

pub returns-in-Some-clause-value : goal.returns-in-Some-clause-value
returns-in-Some-clause-value g c =
    let known = (g.V.View.content c.args.view.now).known in
    sym (c.is_true.ensures (row_solution known c.args.scratch.now c.args.row.now)
    (sym (term_read known c.args.scratch.now c.args.row.now c.args.among.now.variable c.in-Some.cell c.term.result.now c.in-Some.ensures c.term.ensures)))
