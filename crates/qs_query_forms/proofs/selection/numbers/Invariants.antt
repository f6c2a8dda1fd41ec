use Rattle.std.proofs.Common.{◌≡◌, map, take}
use Rattle.qs_syntax_scope.specs.Places.{place_of}
use Rattle.qs_query_forms.proofs.selection.numbers.Given as goal

abbrev pub invariant-loop-name : goal.invariant-loop-name
invariant-loop-name l = l.columns ≡ map (place_of l.names) (take l.name-index l.vars)
