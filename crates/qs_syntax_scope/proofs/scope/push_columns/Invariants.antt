use Rattle.std.proofs.Common.{◌≡◌, ◌++◌, map, take}
use Rattle.qs_syntax_ast.specs.declared.term.Variable.{Variable}
use Rattle.qs_syntax_scope.proofs.scope.push_columns.Given as goal

abbrev pub invariant-loop-variable : goal.invariant-loop-variable
invariant-loop-variable l = l.names ≡ l.initial.names ++ map (λ (v : Variable). v.name) (take l.variable-index l.variable-items)
