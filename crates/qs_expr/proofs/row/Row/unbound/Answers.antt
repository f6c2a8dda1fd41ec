use Rattle.std.proofs.Common.{ap, ◌∙◌}
use Rattle.qs_expr.specs.inner.Cell.{row_solution}
use Rattle.qs_expr.proofs.Rows.{no_cells_unbound}
use Rattle.qs_expr.proofs.row.Row.unbound.Goals as goal

pub returns-clause-terms : goal.returns-clause-terms
returns-clause-terms c known table = ap (row_solution known table) c.in_ok-cells.ensures ∙ no_cells_unbound known table c.args.width
