use Rattle.qs_expr.specs.inner.Cell.{FitsRow}
use Rattle.qs_expr.specs.inner.Scratch.{IsTable}
use Rattle.tests_expr.proofs.values.are_values.Given as goal

abbrev pub invariant-loop-a : goal.invariant-loop-a
invariant-loop-a g l = record {
  table : IsTable (g.V.View.content l.view).known l.scratch;
  fits : FitsRow (g.V.View.content l.view).known l.scratch l.row;
}
