use Rattle.qs_syntax_scope.proofs.FirstPlace as place
use Rattle.qs_syntax_scope.proofs.laws.names_stand_at_their_places.Goals as goal

pub returns : goal.returns
returns c = record { within = place.within; at = place.at_place }
