use Rattle.std.proofs.Common.{◌≡◌, take}
use Rattle.qs_syntax_scope.specs.Firsts.{names_of}
use Rattle.qs_syntax_scope.proofs.first.number_names.Given as goal

abbrev pub invariant-loop-variable : goal.invariant-loop-variable
invariant-loop-variable l = l.names ≡ names_of (take l.variable-index l.variables)
