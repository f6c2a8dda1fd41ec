use Rattle.std.proofs.Common.{◌≡◌, map, drop}
use Rattle.qs_syntax_resolve.specs.Expression.{expression_of}
use Rattle.qs_syntax_resolve.specs.inner.Expression.{addend_of, addends, operands, list}
use Rattle.qs_syntax_resolve.specs.Resolving.{all_after}
use Rattle.qs_syntax_resolve.proofs.resolver.Resolver.+expression.Given as goal

abbrev pub invariant-addends-loop-addend : goal.invariant-addends-loop-addend
invariant-addends-loop-addend l = all_after l.found (map addend_of (drop l.addend-index l.all)) l.self ≡ addends l.all l.fn.self

abbrev pub invariant-expression_operands-loop-operand : goal.invariant-expression_operands-loop-operand
invariant-expression_operands-loop-operand l = all_after l.found (map (λ o. expression_of o.expression) (drop l.operand-index l.all)) l.self ≡ operands l.all l.fn.self

abbrev pub invariant-list-loop-member : goal.invariant-list-loop-member
invariant-list-loop-member l = all_after l.found (map expression_of (drop l.member-index l.all)) l.self ≡ list l.all l.fn.self
