-- The variables that stand in an operation with a WHERE are among those that it lists.
use Rattle.qs_syntax_scope.specs.inner.Laws.{AreListed}
use Rattle.qs_syntax_scope.specs.inner.VariablesIn.{in_operation}
use Rattle.qs_syntax_ast.specs.declared.update.Operation.{Operation}
use Rattle.qs_syntax_ast.specs.declared.update.Operation.TheVariants as operation

-- an operation without a WHERE lists none
abbrev pub OperationIsListed : Operation → Type 0
OperationIsListed (operation.DeleteWhere d) =
    AreListed d.variables (in_operation (operation.DeleteWhere d))
OperationIsListed (operation.Modify m) =
    AreListed m.variables (in_operation (operation.Modify m))
OperationIsListed other = Unit {0}
