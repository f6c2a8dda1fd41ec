use Rattle.std.proofs.Common.{refl, sym}
use Rattle.qs_expr_values.specs.inner.Value.{term_of}
use Rattle.qs_expr.specs.inner.Cell.{row_solution}
use Rattle.qs_expr.proofs.RowTerms.{term_read}
use Rattle.qs_expr.proofs.part.is_against.Goals as goal

pub returns-in-Some-compare-clause-value : goal.returns-in-Some-compare-clause-value
returns-in-Some-compare-clause-value g c =
    let known = (g.V.View.content c.args.view.now).known in
    sym (c.in-Some-compare.ensures (row_solution known c.args.scratch.now c.args.row.now) c.in-Some-compare.truth
    (sym (term_read known c.args.scratch.now c.args.row.now c.args.against.now.variable c.in-Some.cell (term_of c.value.result) c.in-Some.ensures c.value.ensures)) refl)
