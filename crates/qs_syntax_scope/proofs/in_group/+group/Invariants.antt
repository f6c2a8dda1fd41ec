use Rattle.std.proofs.Common.{◌≡◌, ◌++◌, take}
use Rattle.qs_syntax_scope.specs.inner.VariablesIn as inner
use Rattle.qs_syntax_scope.proofs.in_group.+group.Given as goal

abbrev pub invariant-push_patterns-loop-one : goal.invariant-push_patterns-loop-one
invariant-push_patterns-loop-one l = l.names ≡ l.initial.names ++ inner.in_patterns (take l.one-index l.all)

abbrev pub invariant-push_groups-loop-one : goal.invariant-push_groups-loop-one
invariant-push_groups-loop-one l = l.names ≡ l.initial.names ++ inner.in_groups (take l.one-index l.all)
