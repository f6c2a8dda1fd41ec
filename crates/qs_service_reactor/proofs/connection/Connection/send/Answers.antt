use Rattle.std.proofs.Common.{refl}
use Rattle.qs_service_reactor.proofs.Agrees.{empty_of}
use Rattle.qs_service_reactor.proofs.Moves.{turns_none, turns_wrote, turns_finished}
use Rattle.qs_service_reactor.proofs.connection.Connection.send.Goals as goal

pub returns-in-Ok : goal.returns-in-Ok
returns-in-Ok g c = record { turns = turns_finished _ _ _ _ _ _ _ _ c.requires c.enter.ensures c.in-Ok.ensures c.in-Some.ensures.bytes (empty_of _ _ c.is_empty.ensures c.if-is_empty.true) }

pub returns-in-Err : goal.returns-in-Err
returns-in-Err g c = record { turns = turns_none _ _ _ _ _ c.in-Err.ensures }

pub returns-in-Ok-put : goal.returns-in-Ok-put
returns-in-Ok-put g c = record { turns = turns_wrote _ _ _ _ _ _ _ _ _ _ c.requires c.enter-in-Ok-put.ensures refl c.in-Ok-put.ensures.log c.in-Some.ensures.bytes c.in-Ok-put.ensures.bound }

pub returns-in-Err-put : goal.returns-in-Err-put
returns-in-Err-put g c = record { turns = turns_none _ _ _ _ _ c.in-Err-put.ensures.log }
