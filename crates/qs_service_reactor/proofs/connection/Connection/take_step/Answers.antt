use Rattle.qs_service_reactor.proofs.Goes.{logs_none}
use Rattle.qs_service_reactor.proofs.Moves.{turns_none}
use Rattle.qs_service_reactor.proofs.connection.Connection.take_step.Goals as goal

pub returns-in-Free : goal.returns-in-Free
returns-in-Free g c = record { turns = turns_none _ _ _ _ _ (logs_none _) }
