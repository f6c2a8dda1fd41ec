use Rattle.qs_lex_regular.proofs.Derivative.{derive-to, derive-from}
use Rattle.qs_lex_regular.proofs.laws.derivative_is_what_is_left.Goals as goal

pub returns-clause-sound : goal.returns-clause-sound
returns-clause-sound c = derive-to

pub returns-clause-complete : goal.returns-clause-complete
returns-clause-complete c = derive-from
