use Rattle.std.proofs.Common.{◌≡◌, map, take}
use Rattle.qs_algebra_solutions.specs.Solution.{binding}
use Rattle.qs_expr.specs.inner.Scratch.{Grows}
use Rattle.qs_ops_tables.specs.inner.Tables.{FitRows, row_solutions}
use Rattle.qs_ops_tables.proofs.values.table_rows.Given as goal

abbrev pub invariant-loop-terms : goal.invariant-loop-terms
invariant-loop-terms g l = record {
  grows : Grows (g.V.View.content l.view).known l.fn.scratch l.scratch;
  fits : FitRows (g.V.View.content l.view).known l.scratch l.rows.items;
  rows : row_solutions (g.V.View.content l.view).known l.scratch l.rows.items ≡ map (binding l.width l.table.variables) (take l.terms-index l.table.rows);
}
