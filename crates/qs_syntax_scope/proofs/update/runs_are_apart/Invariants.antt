use Rattle.std.proofs.Common.{◌≡◌, [], take}
use Rattle.std.specs.List.{fold, flat_map}
use Rattle.qs_syntax_scope.specs.inner.Met.{after, add_run}
use Rattle.qs_syntax_scope.specs.KeepsScope as spec
use Rattle.qs_syntax_scope.proofs.update.runs_are_apart.Given as goal

abbrev pub invariant-loop-operation : goal.invariant-loop-operation
invariant-loop-operation l = l.met ≡ fold add_run (after []) (flat_map spec.operation_runs (take l.operation-index l.operations))
