use Rattle.std.proofs.Common.{◌≡◌, map, take}
use Rattle.qs_algebra.specs.Expressions.{expr_of}
use Rattle.qs_algebra.specs.inner.Expressions.{addend_of}
use Rattle.qs_algebra.proofs.expression.+expression.Given as goal

abbrev pub invariant-exprs_of-loop-expression : goal.invariant-exprs_of-loop-expression
invariant-exprs_of-loop-expression l = l.exprs ≡ map (expr_of l.names) (take l.expression-index l.expressions)

abbrev pub invariant-addends_of-loop-addend : goal.invariant-addends_of-loop-addend
invariant-addends_of-loop-addend l = l.addends ≡ map (addend_of l.names) (take l.addend-index l.written)
