use Rattle.std.proofs.Common.{Some, ap, sym, subst, ◌∙◌}
use Rattle.qs_expr.specs.inner.Cell.{row_solution, FitsRow}
use Rattle.qs_expr.proofs.Compacts.{put_one}
use Rattle.qs_expr.proofs.Rows.{bound_terms, bound_fits}
use Rattle.qs_expr.proofs.row.Row.bind.Goals as goal

pub returns-clause-cells : goal.returns-clause-cells
returns-clause-cells c = put_one c.self.inside.cells.items c.args.variable c.compact.result c.args.self.now (Some c.args.cell) c.self.view_is c.compact.ensures

pub returns-clause-terms : goal.returns-clause-terms
returns-clause-terms c known table = ap (row_solution known table) (returns-clause-cells c) ∙ bound_terms known table c.args.self.now c.args.variable c.args.cell

pub returns-clause-fits : goal.returns-clause-fits
returns-clause-fits c known table h k = subst (FitsRow known table) (sym (returns-clause-cells c)) (bound_fits known table c.args.self.now c.args.variable c.args.cell h k)
