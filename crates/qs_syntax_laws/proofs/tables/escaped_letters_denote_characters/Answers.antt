use Rattle.qs_syntax_laws.proofs.CharacterTables.{letters}
use Rattle.qs_syntax_laws.proofs.tables.escaped_letters_denote_characters.Goals as goal

pub returns : goal.returns
returns c = letters
