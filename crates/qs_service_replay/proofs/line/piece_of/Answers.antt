use Rattle.qs_service_replay.proofs.Lines.{no_parts, no_id, no_hex, of_none}
use Rattle.qs_service_replay.proofs.line.piece_of.Goals as goal

pub returns-in_default : goal.returns-in_default
returns-in_default c = no_parts c.args.rest.now c.in_default.ensures

pub returns-in_default-id_of : goal.returns-in_default-id_of
returns-in_default-id_of c = λ id bytes. no_id c.args.rest.now c.in-Some.digits.now c.in-Some.hex.now c.in-Some.ensures.0 c.in-Some.ensures.1 id bytes c.in_default-id_of.ensures

pub returns-in-Ok-None : goal.returns-in-Ok-None
returns-in-Ok-None c = λ id bytes.
    no_hex c.args.rest.now c.in-Some.digits.now c.in-Some.hex.now c.in-Some.ensures.0 c.in-Some.ensures.1 id bytes
    (of_none _ _ c.in-Ok-None.field-0 c.in-Ok-None.field-0-is c.in-Ok-None.ensures)
