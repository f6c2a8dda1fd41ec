use Rattle.std.proofs.Common.{◌≡◌, take}
use Rattle.qs_syntax_scope.specs.Firsts.{firsts}
use Rattle.qs_syntax_scope.specs.inner.Firsts.{with_names}
use Rattle.qs_syntax_scope.proofs.first.first_of_names.Given as goal

abbrev pub invariant-loop-place : goal.invariant-loop-place
invariant-loop-place l = l.found ≡ firsts (with_names (take l.place l.names))
