use Rattle.qs_http.proofs.Steps.{request_kept}
use Rattle.qs_http.proofs.laws.requests_are_kept.Goals as goal

pub returns : goal.returns
returns c = request_kept
