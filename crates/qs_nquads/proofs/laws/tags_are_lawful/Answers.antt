use Rattle.qs_nquads.proofs.TakenTags as tags
use Rattle.qs_nquads.proofs.laws.tags_are_lawful.Goals as goal

pub returns : goal.returns
returns c = tags.lawful
