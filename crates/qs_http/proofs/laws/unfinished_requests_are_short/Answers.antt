use Rattle.qs_http.proofs.Unfinished.{more_is_short}
use Rattle.qs_http.proofs.laws.unfinished_requests_are_short.Goals as goal

pub returns : goal.returns
returns c = more_is_short
