use Rattle.std.proofs.Common.{◌≡◌, [], map, take}
use Rattle.std.specs.List.{fold}
use Rattle.qs_syntax_ast.specs.declared.term.Variable.{Variable}
use Rattle.qs_syntax_scope.specs.inner.Met.{after, add_new}
use Rattle.qs_syntax_scope.proofs.tables.columns_are_distinct.Given as goal

abbrev pub invariant-loop-variable : goal.invariant-loop-variable
invariant-loop-variable l = l.met ≡ fold add_new (after []) (map (λ (v : Variable). v.name) (take l.variable-index l.variable-items))
