use Rattle.std.proofs.Common.{◌≡◌, take}
use Rattle.std.specs.List.{fold}
use Rattle.qs_syntax_scope.specs.inner.Met.{add_run}
use Rattle.qs_syntax_scope.specs.inner.Runs as inner
use Rattle.qs_syntax_scope.proofs.runs.+runs.Given as goal

abbrev pub invariant-patterns-loop-one : goal.invariant-patterns-loop-one
invariant-patterns-loop-one l = l.met ≡ fold add_run l.initial.met (inner.patterns_runs (take l.one-index l.all))

abbrev pub invariant-operands-loop-one : goal.invariant-operands-loop-one
invariant-operands-loop-one l = l.met ≡ fold add_run l.initial.met (inner.groups_runs (take l.one-index l.all))
