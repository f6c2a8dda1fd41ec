use Rattle.std.proofs.Common.{◌≡◌, ◌++◌, take}
use Rattle.qs_syntax_scope.specs.inner.VariablesIn as inner
use Rattle.qs_syntax_scope.proofs.in_expression.+expression.Given as goal

abbrev pub invariant-push_expressions-loop-one : goal.invariant-push_expressions-loop-one
invariant-push_expressions-loop-one l = l.names ≡ l.initial.names ++ inner.in_expressions (take l.one-index l.all)

abbrev pub invariant-push_addends-loop-one : goal.invariant-push_addends-loop-one
invariant-push_addends-loop-one l = l.names ≡ l.initial.names ++ inner.in_addends (take l.one-index l.all)
