use Rattle.qs_expr.proofs.RowTerms.{variable_due, variable_errs}
use Rattle.qs_expr.proofs.evaluate.eval.Goals as goal

pub returns-in-Some-clause-value : goal.returns-in-Some-clause-value
returns-in-Some-clause-value g c =
    variable_due (g.V.View.content c.args.view.now).known c.args.scratch.now c.args.row.now c.args.expr.now c.in-Variable.variable c.in-Some.cell c.requires.row c.in-Variable.is c.in-Some.ensures

pub returns-in-None-clause-value : goal.returns-in-None-clause-value
returns-in-None-clause-value g c =
    variable_errs (g.V.View.content c.args.view.now).known c.args.scratch.now c.args.row.now c.args.expr.now c.in-Variable.variable c.in-Variable.is c.in-None.ensures
