use Rattle.qs_nquads.proofs.Bridge.{from_nquads}
use Rattle.qs_nquads.proofs.ReadingsBelow.{above_all, no_smaller}
use Rattle.qs_nquads.proofs.ReadingsFrom as readings
use Rattle.qs_nquads.proofs.laws.next_number_is_fresh.Goals as goal

pub returns-clause-above : goal.returns-clause-above
returns-clause-above c = λ bytes first quads next h. above_all bytes first quads next (from_nquads bytes first quads next h)

pub returns-clause-at_least : goal.returns-clause-at_least
returns-clause-at_least c = λ bytes first quads next h. no_smaller bytes first quads next (from_nquads bytes first quads next h)

pub returns-clause-from_first : goal.returns-clause-from_first
returns-clause-from_first c = λ bytes first quads next h. readings.from_first bytes first quads next (from_nquads bytes first quads next h)
