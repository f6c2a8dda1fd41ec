use Rattle.qs_syntax_scope.proofs.Reading.{distinct}
use Rattle.qs_syntax_scope.proofs.laws.distinct_names_stand_once.Goals as goal

pub returns : goal.returns
returns c = distinct
