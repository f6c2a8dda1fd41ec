use Rattle.std.proofs.Common.{◌∙◌}
use Rattle.qs_service_reactor.proofs.Moves.{turns_none, turns_drained}
use Rattle.qs_service_reactor.proofs.connection.Connection.drain.Goals as goal

pub returns-in-Ok : goal.returns-in-Ok
returns-in-Ok g c = record { turns = turns_drained _ _ _ _ _ _ _ c.requires (c.count_dropped.ensures ∙ c.enter.ensures) c.in-Ok.ensures.log }

pub returns-in-Err : goal.returns-in-Err
returns-in-Err g c = record { turns = turns_none _ _ _ _ _ c.in-Err.ensures.log }
