use Rattle.std.proofs.Common.{sym, ◌∙◌}
use Rattle.qs_expr.proofs.Places.{grows_with, number_there, with_known, with_unknown}
use Rattle.qs_expr.proofs.scratch.intern_owned.Goals as goal

pub returns-in-Some-clause-cell : goal.returns-in-Some-clause-cell
returns-in-Some-clause-cell g c = number_there (g.V.View.content c.args.view.now).known c.args.term c.in-Some.number (sym c.in-Some.ensures)

pub returns-in-Some-clause-table : goal.returns-in-Some-clause-table
returns-in-Some-clause-table g c = with_known (g.V.View.content c.args.view.now).known c.args.scratch.now c.args.term c.in-Some.number (sym c.in-Some.ensures)

pub returns-in_ok-place-in-None-clause-table : goal.returns-in_ok-place-in-None-clause-table
returns-in_ok-place-in-None-clause-table g c =
    c.in_ok-place-in-None.ensures.terms ∙ with_unknown (g.V.View.content c.args.view.now).known c.args.scratch.now c.args.term (sym c.in-None.ensures)

pub returns-in_ok-place-in-None-clause-grows : goal.returns-in_ok-place-in-None-clause-grows
returns-in_ok-place-in-None-clause-grows g c =
    grows_with (g.V.View.content c.args.view.now).known c.args.scratch.now c.args.term c.requires (sym c.in-None.ensures) c.place.new.self c.in_ok-place-in-None.ensures.terms
