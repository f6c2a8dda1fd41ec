use Rattle.std.proofs.Common.{None, Some, refl}
use Rattle.qs_service_replay.specs.inner.ScriptEvents.{event_of}
use Rattle.qs_service_replay.specs.Replay as spec
use Rattle.qs_service_replay.proofs.Tellings.{tells_of, made_now}
use Rattle.qs_service_replay.proofs.told.told.Goals as goal

pub returns-in-Err : goal.returns-in-Err
returns-in-Err g c =
    tells_of c.refused_line.result g.M.Meaning.carries c.args.connections.now c.carry_out.new.connections c.args.line (event_of c.args.event.now) (Some c.in-Err.fault) (spec.refused_line c.args.line c.in-Err.fault) c.in-Err.ensures refl c.refused_line.ensures

pub returns-in-Some : goal.returns-in-Some
returns-in-Some g c =
    tells_of c.reply_line.result g.M.Meaning.carries c.args.connections.now c.carry_out.new.connections c.args.line (event_of c.args.event.now) None (spec.reply_line c.in-Piece.id c.in-Some.reply.now) c.in-Ok.ensures
    (made_now c.args.event.now c.in-Piece.id c.in-Piece.field-1 c.args.connections.now c.carry_out.new.connections c.args.line c.in-Some.reply.now c.has_reply-had.result c.in-Piece.is c.has_reply-had.ensures c.if-not-had.true c.in-Some.ensures)
    c.reply_line.ensures
