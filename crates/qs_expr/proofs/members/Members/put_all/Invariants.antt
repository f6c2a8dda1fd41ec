use Rattle.std.proofs.Common.{◌≡◌, ◌&&◌, ◌||◌, take}
use Rattle.std.specs.List.{list_all, list_any}
use Rattle.qs_terms.specs.declared.term.Term.{Term}
use Rattle.qs_algebra_solutions.specs.Solution.{Solution}
use Rattle.qs_expr.specs.inner.Members.{differs_member, equals_member, is_apart, is_in, IsProper}
use Rattle.qs_expr.proofs.members.Members.put_all.Given as goal

abbrev pub invariant-loop-expr : goal.invariant-loop-expr
invariant-loop-expr l = record {
  hits : (m : Solution) (x : Term) → IsProper x → is_in l.self x ≡ (is_in l.fn.self x || list_any (equals_member m x) (take l.expr-index l.exprs));
  apart : (m : Solution) (x : Term) → IsProper x → is_apart l.self x ≡ (is_apart l.fn.self x && list_all (differs_member m x) (take l.expr-index l.exprs));
}
