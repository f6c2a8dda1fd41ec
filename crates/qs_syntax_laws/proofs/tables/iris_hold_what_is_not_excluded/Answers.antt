use Rattle.qs_syntax_laws.proofs.CharacterTables.{iris}
use Rattle.qs_syntax_laws.proofs.tables.iris_hold_what_is_not_excluded.Goals as goal

pub returns : goal.returns
returns c = iris
