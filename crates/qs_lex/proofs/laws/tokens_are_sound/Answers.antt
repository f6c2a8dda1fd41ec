use Rattle.qs_lex.proofs.Sound.{sound_tokens}
use Rattle.qs_lex.proofs.laws.tokens_are_sound.Goals as goal

pub returns : goal.returns
returns c = sound_tokens
