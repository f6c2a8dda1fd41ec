use Rattle.std.proofs.Common.{◌≡◌, drop}
use Rattle.qs_algebra_solutions.specs.Solution.{bind_all, binding}
use Rattle.qs_expr.specs.inner.Cell.{FitsRow, row_solution}
use Rattle.qs_expr.specs.inner.Scratch.{Grows}
use Rattle.qs_ops_tables.proofs.values.binding_row.Given as goal

abbrev pub invariant-loop-at : goal.invariant-loop-at
invariant-loop-at g l = record {
  grows : Grows (g.V.View.content l.view).known l.fn.scratch l.scratch;
  fits : FitsRow (g.V.View.content l.view).known l.scratch l.row;
  terms : bind_all (row_solution (g.V.View.content l.view).known l.scratch l.row) (drop l.at l.variables) (drop l.at l.terms) ≡ binding l.width l.variables l.terms;
}
