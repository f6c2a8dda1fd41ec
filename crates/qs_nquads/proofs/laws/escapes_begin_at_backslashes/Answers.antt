use Rattle.qs_nquads.proofs.TakenEscapes as taken
use Rattle.qs_nquads.proofs.laws.escapes_begin_at_backslashes.Goals as goal

pub returns : goal.returns
returns c = record { iri = taken.in_iri; string = taken.in_string }
