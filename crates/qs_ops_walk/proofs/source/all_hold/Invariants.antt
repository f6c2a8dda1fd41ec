use Rattle.std.proofs.Common.{◌≡◌, true, map, take}
use Rattle.qs_algebra_patterns.specs.Eval.{all_hold}
use Rattle.qs_expr.specs.inner.Cell.{row_solution}
use Rattle.qs_ops_walk.specs.inner.Setting.{known_of}
use Rattle.qs_ops_walk.specs.inner.Works.{expr_of}
use Rattle.qs_ops_walk.proofs.source.all_hold.Given as goal

abbrev pub invariant-loop-condition : goal.invariant-loop-condition
invariant-loop-condition g l = all_hold (map expr_of (take l.condition-index l.conditions.list.items)) (take l.reader.width (row_solution (known_of l.reader) l.scratch l.row)) ≡ true
