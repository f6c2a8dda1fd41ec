use Rattle.qs_update_laws.proofs.InstancePredicates.{each_iri}
use Rattle.qs_update_laws.proofs.laws.instances_have_iri_predicates.Goals as goal

pub returns : goal.returns
returns c = each_iri
