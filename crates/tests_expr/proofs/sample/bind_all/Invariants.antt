use Rattle.qs_expr.specs.inner.Cell.{FitsRow}
use Rattle.qs_expr.specs.inner.Scratch.{IsTable}
use Rattle.tests_expr.proofs.sample.bind_all.Given as goal

abbrev pub invariant-loop-variable : goal.invariant-loop-variable
invariant-loop-variable g l = record {
  table : IsTable (g.V.View.content l.view).known l.scratch;
  fits : FitsRow (g.V.View.content l.view).known l.scratch l.row;
}
