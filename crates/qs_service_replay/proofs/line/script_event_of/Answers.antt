use Rattle.qs_service_replay.proofs.Lines.{no_piece, of_none}
use Rattle.qs_service_replay.proofs.line.script_event_of.Goals as goal

pub returns-in-Ok-None : goal.returns-in-Ok-None
returns-in-Ok-None c =
    no_piece c.args.line.now c.in-Some-behind-2.rest.now c.in-Some-behind-2.ensures (of_none _ _ c.in-Ok-None.field-0 c.in-Ok-None.field-0-is c.in-Ok-None.ensures)
