use Rattle.qs_http.proofs.Steps.{stands_joined}
use Rattle.qs_http.proofs.laws.cuts_do_not_matter.Goals as goal

pub returns : goal.returns
returns c = stands_joined
