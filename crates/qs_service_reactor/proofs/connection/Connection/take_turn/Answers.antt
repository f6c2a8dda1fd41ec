use Rattle.qs_service_reactor.proofs.Moves.{turns_then}
use Rattle.qs_service_reactor.proofs.connection.Connection.take_turn.Goals as goal

pub returns-then-eq : goal.returns-then-eq
returns-then-eq g c = record { turns = turns_then _ _ _ _ _ _ _ _ _ _ c.take_steps-turn.ensures.turns c.leave.ensures.turns }
