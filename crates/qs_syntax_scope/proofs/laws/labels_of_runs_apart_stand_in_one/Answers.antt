use Rattle.qs_syntax_scope.proofs.Reading.{apart}
use Rattle.qs_syntax_scope.proofs.laws.labels_of_runs_apart_stand_in_one.Goals as goal

pub returns : goal.returns
returns c = apart
