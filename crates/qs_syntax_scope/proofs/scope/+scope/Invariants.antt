use Rattle.std.proofs.Common.{◌≡◌, ◌++◌, length, take}
use Rattle.qs_syntax_scope.specs.inner.Scope as inner
use Rattle.qs_syntax_scope.proofs.scope.+scope.Given as goal

abbrev pub invariant-patterns-loop-one : goal.invariant-patterns-loop-one
invariant-patterns-loop-one l = record {
  begun : l.start ≡ length l.initial.names;
  names : l.names ≡ l.initial.names ++ (inner.parts (take l.one-index l.all)).names;
  keeps : l.keeps ≡ (inner.parts (take l.one-index l.all)).keeps;
}

abbrev pub invariant-operands-loop-one : goal.invariant-operands-loop-one
invariant-operands-loop-one l = record {
  names : l.names ≡ l.initial.names ++ (inner.operands (take l.one-index l.all)).names;
  keeps : l.keeps ≡ (inner.operands (take l.one-index l.all)).keeps;
}
