use Rattle.std.proofs.Common.{sym, ◌∙◌, ap}
use Rattle.qs_terms.specs.Bag.{with_new}
use Rattle.qs_terms.specs.Term.{same_term}
use Rattle.qs_expr.proofs.Places.{grows_with, number_there, with_known, with_unknown}
use Rattle.qs_expr.proofs.scratch.intern.Goals as goal

pub returns-in-Some-clause-cell : goal.returns-in-Some-clause-cell
returns-in-Some-clause-cell g c = number_there (g.V.View.content c.args.view.now).known c.args.term.now c.in-Some.number (sym c.in-Some.ensures)

pub returns-in-Some-clause-table : goal.returns-in-Some-clause-table
returns-in-Some-clause-table g c = with_known (g.V.View.content c.args.view.now).known c.args.scratch.now c.args.term.now c.in-Some.number (sym c.in-Some.ensures)

pub returns-in_ok-place-in-None-clause-table : goal.returns-in_ok-place-in-None-clause-table
returns-in_ok-place-in-None-clause-table g c =
    c.in_ok-place-in-None.ensures.terms ∙ (ap (with_new same_term c.args.scratch.now) c.in_ok-own-in-None.ensures
    ∙ with_unknown (g.V.View.content c.args.view.now).known c.args.scratch.now c.args.term.now (sym c.in-None.ensures))

pub returns-in_ok-place-in-None-clause-grows : goal.returns-in_ok-place-in-None-clause-grows
returns-in_ok-place-in-None-clause-grows g c =
    grows_with (g.V.View.content c.args.view.now).known c.args.scratch.now c.args.term.now c.requires (sym c.in-None.ensures) c.place.new.self
    (c.in_ok-place-in-None.ensures.terms ∙ ap (with_new same_term c.args.scratch.now) c.in_ok-own-in-None.ensures)
