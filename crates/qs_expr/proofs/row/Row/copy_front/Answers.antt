use Rattle.std.proofs.Common.{ap, sym, subst, ◌∙◌}
use Rattle.qs_expr.specs.inner.Cell.{row_solution, FitsRow}
use Rattle.qs_expr.specs.inner.Compact.{cells_of}
use Rattle.qs_expr.proofs.Rows.{front_terms, front_fits}
use Rattle.qs_expr.proofs.row.Row.copy_front.Goals as goal

pub returns-clause-cells : goal.returns-clause-cells
returns-clause-cells c = ap cells_of c.in_ok-cells.ensures ∙ (rw (c.as_slice.ensures.value, c.self.view_is) at c.front.ensures)

pub returns-clause-terms : goal.returns-clause-terms
returns-clause-terms c known table = ap (row_solution known table) (returns-clause-cells c) ∙ front_terms known table c.args.width c.args.self.now

pub returns-clause-fits : goal.returns-clause-fits
returns-clause-fits c known table h = subst (FitsRow known table) (sym (returns-clause-cells c)) (front_fits known table c.args.width c.args.self.now h)
