use Rattle.quads.proofs.load.load_owned_service.Goals as goal

pub returns-in-Err : goal.returns-in-Err
returns-in-Err c = rw c.refusal_of.ensures c.in-Err.ensures.becomes
