use Rattle.std.proofs.Common.{◌≡◌, [], map, take}
use Rattle.std.specs.List.{fold}
use Rattle.qs_syntax_scope.specs.inner.Met.{after, add_run}
use Rattle.qs_syntax_scope.specs.KeepsScope as spec
use Rattle.qs_syntax_scope.proofs.update.inserted_are_apart.Given as goal

abbrev pub invariant-loop-operation : goal.invariant-loop-operation
invariant-loop-operation l = l.met ≡ fold add_run (after []) (map spec.inserted_labels (take l.operation-index l.operations))
