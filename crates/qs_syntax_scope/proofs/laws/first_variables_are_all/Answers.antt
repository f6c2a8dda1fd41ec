use Rattle.qs_syntax_scope.proofs.FirstsKept.{contains_firsts}
use Rattle.qs_syntax_scope.proofs.Listed.{stand_once}
use Rattle.qs_syntax_scope.proofs.laws.first_variables_are_all.Goals as goal

pub returns : goal.returns
returns c = record { names = contains_firsts; once = stand_once }
