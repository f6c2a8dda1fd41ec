use Rattle.qs_nquads.proofs.TakenEscapes as escapes
use Rattle.qs_nquads.proofs.TakenTags as tags
use Rattle.qs_nquads.proofs.laws.tokens_stand_with_their_marks.Goals as goal

pub returns : goal.returns
returns c = record { iri = escapes.iri_parted; string = escapes.string_parted; tag = tags.tag_parted; label = tags.label_parted }
