use Rattle.qs_service_reactor.proofs.Moves.{turns_none, turns_received}
use Rattle.qs_service_reactor.proofs.connection.Connection.receive.Goals as goal

pub returns-in-Ok : goal.returns-in-Ok
returns-in-Ok g c = record { turns = turns_received _ _ _ _ _ _ _ _ _ _ c.requires c.in-Ok.ensures.log c.piece.ensures.step c.piece.ensures.keeps c.stage_after-stage.ensures c.enter.ensures }

pub returns-in-Err : goal.returns-in-Err
returns-in-Err g c = record { turns = turns_none _ _ _ _ _ c.in-Err.ensures.log }
