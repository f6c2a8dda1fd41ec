use Rattle.qs_lex.proofs.SomeReading.{some_reading}
use Rattle.qs_lex.proofs.laws.some_token_list.Goals as goal

pub returns : goal.returns
returns c = some_reading
