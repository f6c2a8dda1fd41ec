use Rattle.qs_http.proofs.RequestLaws.{request_of_unique}
use Rattle.qs_http.proofs.laws.requests_are_unique.Goals as goal

pub returns : goal.returns
returns c = request_of_unique
