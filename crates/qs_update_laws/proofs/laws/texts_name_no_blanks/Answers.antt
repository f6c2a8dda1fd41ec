use Rattle.qs_update_laws.proofs.Translated.{where_free}
use Rattle.qs_update_laws.proofs.laws.texts_name_no_blanks.Goals as goal

pub returns : goal.returns
returns c = where_free
