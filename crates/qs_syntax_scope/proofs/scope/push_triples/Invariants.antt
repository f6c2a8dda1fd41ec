use Rattle.std.proofs.Common.{◌≡◌, ◌++◌, take}
use Rattle.std.specs.List.{flat_map}
use Rattle.qs_syntax_scope.specs.Variables.{triple_variables}
use Rattle.qs_syntax_scope.proofs.scope.push_triples.Given as goal

abbrev pub invariant-loop-triple : goal.invariant-loop-triple
invariant-loop-triple l = l.names ≡ l.initial.names ++ flat_map triple_variables (take l.triple-index l.triples)
