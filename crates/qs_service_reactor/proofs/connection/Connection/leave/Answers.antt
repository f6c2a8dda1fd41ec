use Rattle.qs_service_reactor.proofs.Moves.{turns_end}
use Rattle.qs_service_reactor.proofs.connection.Connection.leave.Goals as goal

pub returns : goal.returns
returns g c = record { turns = turns_end _ _ _ _ _ _ _ c.end.ensures.step c.end.ensures.keeps c.close.ensures }
