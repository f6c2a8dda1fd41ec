use Rattle.qs_syntax.proofs.Granted as law
use Rattle.qs_syntax.proofs.laws.tokens_are_granted.Goals as goal

pub returns-clause-pieces : goal.returns-clause-pieces
returns-clause-pieces c = law.pieces c.tokens_are_sound.ensures

pub returns-clause-parts : goal.returns-clause-parts
returns-clause-parts c = law.granted c.tokens_are_sound.ensures
