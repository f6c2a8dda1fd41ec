use Rattle.qs_lex_escapes.proofs.SpelledEscapes.{escapes_stand, decoded_stands}
use Rattle.qs_lex_escapes.proofs.laws.escapes_stand_for_characters.Goals as goal

pub returns-clause-begin : goal.returns-clause-begin
returns-clause-begin c = escapes_stand

pub returns-clause-decoded : goal.returns-clause-decoded
returns-clause-decoded c = decoded_stands
