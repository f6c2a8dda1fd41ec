use Rattle.qs_update_laws.proofs.Translated.{blocks_free}
use Rattle.qs_update_laws.proofs.laws.blocks_name_no_blanks.Goals as goal

pub returns : goal.returns
returns c = blocks_free
