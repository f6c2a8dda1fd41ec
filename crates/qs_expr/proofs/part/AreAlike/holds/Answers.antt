use Rattle.std.proofs.Common.{◌≡◌, Some, refl, sym, ◌∙◌}
use Rattle.qs_expr.specs.inner.Cell.{cell_at, denoted, row_solution}
use Rattle.qs_expr.proofs.Finding.{term_there}
use Rattle.qs_expr.proofs.RowTerms.{term_read}
use Rattle.qs_expr.proofs.part.AreAlike.holds.Goals as goal

pub returns-in-Some-clause-value : goal.returns-in-Some-clause-value
returns-in-Some-clause-value g c =
    let known = (g.V.View.content c.args.view.now).known in
    let table = c.args.scratch.now in
    let m = c.args.row.now in
    let i : Some c.in-Some-Some.a ≡ cell_at m c.args.self.now.first = sym c.in-Some-Some.is-0 ∙ c.cell.ensures in
    let j : Some c.in-Some-Some.b ≡ cell_at m c.args.self.now.second = sym c.in-Some-Some.is-1 ∙ c.cell-2.ensures in
    let p = term_there (denoted known table c.in-Some-Some.a) (c.requires.row.each c.args.self.now.first c.in-Some-Some.a (sym i)) in
    let q = term_there (denoted known table c.in-Some-Some.b) (c.requires.row.each c.args.self.now.second c.in-Some-Some.b (sym j)) in
    sym (c.in-Some.ensures known table p.0 q.0 (row_solution known table m) c.in-Some.truth c.requires.table p.1 q.1
    (sym (term_read known table m c.args.self.now.first c.in-Some-Some.a p.0 i p.1)) (sym (term_read known table m c.args.self.now.second c.in-Some-Some.b q.0 j q.1)) refl)
