use Rattle.qs_service_replay.proofs.Lines.{no_text}
use Rattle.qs_service_replay.proofs.parts.id_of.Goals as goal

pub returns-in-Err : goal.returns-in-Err
returns-in-Err c = no_text c.args.digits.now c.in-Err.ensures.cases.0
