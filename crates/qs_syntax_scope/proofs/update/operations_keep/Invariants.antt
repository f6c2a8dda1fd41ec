use Rattle.std.proofs.Common.{◌≡◌, take}
use Rattle.std.specs.List.{list_all}
use Rattle.qs_syntax_scope.specs.KeepsScope as spec
use Rattle.qs_syntax_scope.proofs.update.operations_keep.Given as goal

abbrev pub invariant-loop-operation : goal.invariant-loop-operation
invariant-loop-operation l = l.keeps ≡ list_all spec.operation_keeps (take l.operation-index l.operations)
