use Rattle.std.proofs.Common.{◌≡◌, map, take}
use Rattle.std.specs.List.{AllByRecursion}
use Rattle.qs_expr.specs.inner.Condition.{IsPreparedFor}
use Rattle.qs_ops_walk.specs.inner.Setting.{known_of}
use Rattle.qs_ops_walk.specs.inner.Works.{expr_of}
use Rattle.qs_ops_walk.proofs.work.conditions_of.Given as goal

abbrev pub invariant-loop-expr : goal.invariant-loop-expr
invariant-loop-expr g l = record {
  exprs : map expr_of l.list.items ≡ take l.expr-index l.exprs;
  prepared : AllByRecursion (IsPreparedFor (known_of l.reader)) l.list.items;
}
