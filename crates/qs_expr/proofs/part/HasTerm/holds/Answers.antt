use Rattle.std.proofs.Common.{not, if◌then◌else◌, sym, ◌∙◌, ap}
use Rattle.qs_expr.specs.inner.Cell.{row_solution}
use Rattle.qs_expr.proofs.RowTerms.{has_there, has_nowhere}
use Rattle.qs_expr.proofs.part.HasTerm.holds.Goals as goal

pub returns-then-self : goal.returns-then-self
returns-then-self g c =
    let known = (g.V.View.content c.args.view.now).known in
    ap (λ b. if b then not c.is_it.result else c.is_it.result) (sym c.if-self.true)
    ∙ (sym (has_there known c.args.scratch.now c.args.row.now c.requires.row c.args.self.now.variable c.in-Some.cell c.args.self.now.term.now c.args.self.now.apart c.is_it.result c.in-Some.ensures (λ x d. c.is_it.ensures known x c.requires.table c.requires.number d))
    ∙ sym (c.args.self.now.sound (row_solution known c.args.scratch.now c.args.row.now)))

pub returns-else-self : goal.returns-else-self
returns-else-self g c =
    let known = (g.V.View.content c.args.view.now).known in
    ap (λ b. if b then not c.is_it-else-self.result else c.is_it-else-self.result) (sym c.if-self.false)
    ∙ (sym (has_there known c.args.scratch.now c.args.row.now c.requires.row c.args.self.now.variable c.in-Some.cell c.args.self.now.term.now c.args.self.now.apart c.is_it-else-self.result c.in-Some.ensures (λ x d. c.is_it-else-self.ensures known x c.requires.table c.requires.number d))
    ∙ sym (c.args.self.now.sound (row_solution known c.args.scratch.now c.args.row.now)))

pub returns-in-None : goal.returns-in-None
returns-in-None g c =
    let known = (g.V.View.content c.args.view.now).known in
    sym (c.args.self.now.sound (row_solution known c.args.scratch.now c.args.row.now)
    ∙ has_nowhere known c.args.scratch.now c.args.row.now c.args.self.now.variable c.args.self.now.term.now c.args.self.now.apart c.in-None.ensures)
