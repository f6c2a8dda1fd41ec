use Rattle.tests_expr.proofs.values.is_value.Goals as goal

pub returns-in-Ok-clause-fits : goal.returns-in-Ok-clause-fits
returns-in-Ok-clause-fits g c =
    c.rows_keep_their_solutions.ensures.fits (g.V.View.content c.args.view.now).known c.args.scratch.now c.eval-cell.new.scratch c.args.row.now c.eval-cell.ensures.grows c.requires.fits
