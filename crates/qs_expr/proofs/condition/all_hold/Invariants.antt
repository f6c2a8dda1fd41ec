use Rattle.std.proofs.Common.{◌≡◌, true, take}
use Rattle.qs_expr.specs.inner.Cell.{row_solution}
use Rattle.qs_expr.specs.inner.Parts.{all_hold}
use Rattle.qs_expr.proofs.condition.all_hold.Given as goal

abbrev pub invariant-loop-part : goal.invariant-loop-part
invariant-loop-part g l = all_hold (row_solution (g.V.View.content l.view).known l.scratch l.row) (take l.part-index l.parts) ≡ true
