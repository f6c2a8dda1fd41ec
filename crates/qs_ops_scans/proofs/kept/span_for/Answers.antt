use Rattle.std.proofs.Common.{sym, ◌∙◌, ap, subst, List, ℕ}
use Rattle.qs_expr.specs.declared.cell.Cell.{Cell}
use Rattle.qs_ops_scans.specs.inner.Ends.{bound_cell}
use Rattle.qs_ops_scans.specs.inner.Sides.{IsSpanOf}
use Rattle.qs_ops_scans.proofs.Spans.{span_makes}
use Rattle.qs_ops_scans.proofs.kept.span_for.Goals as goal

pub returns-in-Some-bound_cell : goal.returns-in-Some-bound_cell
returns-in-Some-bound_cell c =
    span_makes c.args.ends.now c.args.row.now c.args.pairs.now c.in-Some.side c.in-Some-bound_cell.cell c.span_of.result
    (ap (bound_cell c.args.row.now) (sym c.end_at.ensures) ∙ (sym c.bound_cell.ensures ∙ c.in-Some-bound_cell.is))
    (subst (λ (k : ℕ). IsSpanOf c.in-Some.side k c.args.pairs.now c.span_of.result) c.cell_key.ensures
    (subst (λ (l : List (Cell × Cell)). IsSpanOf c.in-Some.side c.cell_key.result l c.span_of.result) (c.as_slice.ensures.value ∙ c.pairs.view_is) c.span_of.ensures))
