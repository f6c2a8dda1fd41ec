use Rattle.std.proofs.Common.{ap, sym, subst, ◌∙◌}
use Rattle.qs_expr.specs.inner.Cell.{row_solution, FitsRow}
use Rattle.qs_expr.proofs.Compacts.{cut}
use Rattle.qs_expr.proofs.Rows.{front_terms, front_fits}
use Rattle.qs_expr.proofs.row.Row.truncate.Goals as goal

pub returns-clause-cells : goal.returns-clause-cells
returns-clause-cells c = cut c.self.inside.cells.items c.truncate.new.self.items c.args.width c.args.self.now c.self.view_is c.truncate.ensures.items

pub returns-clause-terms : goal.returns-clause-terms
returns-clause-terms c known table = ap (row_solution known table) (returns-clause-cells c) ∙ front_terms known table c.args.width c.args.self.now

pub returns-clause-fits : goal.returns-clause-fits
returns-clause-fits c known table h = subst (FitsRow known table) (sym (returns-clause-cells c)) (front_fits known table c.args.width c.args.self.now h)
