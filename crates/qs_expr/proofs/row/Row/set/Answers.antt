use Rattle.std.proofs.Common.{ap, sym, subst, ◌∙◌}
use Rattle.qs_expr.specs.inner.Cell.{row_solution, FitsRow}
use Rattle.qs_expr.proofs.Compacts.{put_one}
use Rattle.qs_expr.proofs.Rows.{set_terms, set_fits}
use Rattle.qs_expr.proofs.row.Row.set.Goals as goal

pub returns-then-variable-len-clause-cells : goal.returns-then-variable-len-clause-cells
returns-then-variable-len-clause-cells c = put_one c.self.inside.cells.items c.args.variable c.compact_if.result c.args.self.now c.args.cell c.self.view_is c.compact_if.ensures

pub returns-then-variable-len-clause-terms : goal.returns-then-variable-len-clause-terms
returns-then-variable-len-clause-terms c known table = ap (row_solution known table) (returns-then-variable-len-clause-cells c) ∙ set_terms known table c.args.self.now c.args.variable c.args.cell

pub returns-then-variable-len-clause-fits : goal.returns-then-variable-len-clause-fits
returns-then-variable-len-clause-fits c known table h k = subst (FitsRow known table) (sym (returns-then-variable-len-clause-cells c)) (set_fits known table c.args.self.now c.args.variable c.args.cell h k)
