use Rattle.std.proofs.Common.{◌≡◌, ◌&&◌, ◌||◌, take}
use Rattle.std.specs.List.{list_all, list_any}
use Rattle.qs_algebra_solutions.specs.Solution.{Solution}
use Rattle.qs_expr_meaning.specs.inner.Makes.{makes}
use Rattle.qs_expr_meaning.specs.Meaning.{holds}
use Rattle.qs_expr.specs.inner.Condition.{AreNumbersOf}
use Rattle.qs_expr.specs.inner.Parts.{all_hold, numbers_of, some_make}
use Rattle.qs_expr.proofs.parts.+parts.Given as goal

abbrev pub invariant-put_all-loop-expr : goal.invariant-put_all-loop-expr
invariant-put_all-loop-expr g l = record {
  hold : (m : Solution) → all_hold m l.parts.items ≡ (all_hold m l.fn.parts.items && list_all (holds m) (take l.expr-index l.exprs));
  make : some_make l.parts.items ≡ (some_make l.fn.parts.items || list_any makes (take l.expr-index l.exprs));
  numbers : AreNumbersOf (g.V.View.content l.view).known (numbers_of l.fn.parts.items) → AreNumbersOf (g.V.View.content l.view).known (numbers_of l.parts.items);
}
