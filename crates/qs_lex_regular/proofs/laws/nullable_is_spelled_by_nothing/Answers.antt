use Rattle.qs_lex_regular.proofs.Derivative.{nullable-to, nullable-from}
use Rattle.qs_lex_regular.proofs.laws.nullable_is_spelled_by_nothing.Goals as goal

pub returns-clause-sound : goal.returns-clause-sound
returns-clause-sound c = nullable-to

pub returns-clause-complete : goal.returns-clause-complete
returns-clause-complete c = nullable-from
