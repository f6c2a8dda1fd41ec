use Rattle.std.proofs.Common.{Ok, Err}
use Rattle.quads.proofs.Results.{update_over, update_refused}
use Rattle.quads.proofs.update.update_result.Goals as goal

pub returns-in-Ok-outcome : goal.returns-in-Ok-outcome
returns-in-Ok-outcome c = λ choice file became.
    let h = c.in-Ok-outcome.ensures.done in
    (h.0, update_over choice file c.args.text.now c.args.loaded became c.in-Ok.store c.in-Ok.is (Ok h.0) h.1, h.2)

pub returns-in-Err-outcome : goal.returns-in-Err-outcome
returns-in-Err-outcome c = λ choice file became n.
    update_over choice file c.args.text.now c.args.loaded became c.in-Ok.store c.in-Ok.is (Err c.in-Err-outcome.fault) (c.in-Err-outcome.ensures.refused n)

pub returns-in-Err : goal.returns-in-Err
returns-in-Err c = λ choice file became. rw c.load_refusal.ensures (update_refused choice file c.args.text.now c.args.loaded became c.in-Err.fault c.in-Err.is)
