use Rattle.std.proofs.Common.{ap, sym, subst, ◌∙◌}
use Rattle.qs_expr.specs.inner.Cell.{row_solution, FitsRow}
use Rattle.qs_expr.proofs.Rows.{merged_terms, merged_fits}
use Rattle.qs_expr.proofs.row.Row.merged.Goals as goal

pub returns-clause-cells : goal.returns-clause-cells
returns-clause-cells c =
    rw (c.in_ok-cells.ensures.items, c.as_slice.ensures.value, c.as_slice-2.ensures.value, c.self.view_is, c.other.view_is) at c.in_ok-cells-2.ensures

pub returns-clause-terms : goal.returns-clause-terms
returns-clause-terms c known table h = ap (row_solution known table) (returns-clause-cells c) ∙ merged_terms known table c.args.self.now c.args.other.now h

pub returns-clause-fits : goal.returns-clause-fits
returns-clause-fits c known table h k = subst (FitsRow known table) (sym (returns-clause-cells c)) (merged_fits known table c.args.self.now c.args.other.now h k)
