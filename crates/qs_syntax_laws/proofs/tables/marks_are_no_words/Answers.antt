use Rattle.qs_syntax_laws.proofs.MarkKinds.{no_word}
use Rattle.qs_syntax_laws.proofs.tables.marks_are_no_words.Goals as goal

pub returns : goal.returns
returns c = no_word
