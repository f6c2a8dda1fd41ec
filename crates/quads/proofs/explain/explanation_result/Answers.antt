use Rattle.std.proofs.Common.{Ok, Err}
use Rattle.quads.proofs.Results.{explanation_over, explanation_refused}
use Rattle.quads.proofs.explain.explanation_result.Goals as goal

pub returns-in-Ok-outcome : goal.returns-in-Ok-outcome
returns-in-Ok-outcome c = λ choice file became.
    explanation_over choice file c.args.text.now c.args.loaded became c.in-Ok.store c.in-Ok.is c.args.kind c.text_explained-outcome.result (Ok c.in-Ok-outcome.explanation) c.in-Ok-outcome.is c.text_explained-outcome.ensures

pub returns-in-Err-outcome : goal.returns-in-Err-outcome
returns-in-Err-outcome c = λ choice file became.
    explanation_over choice file c.args.text.now c.args.loaded became c.in-Ok.store c.in-Ok.is c.args.kind c.text_explained-outcome.result (Err c.in-Err-outcome.fault) c.in-Err-outcome.is c.text_explained-outcome.ensures

pub returns-in-Err : goal.returns-in-Err
returns-in-Err c = λ choice file became. rw c.load_refusal.ensures (explanation_refused choice file c.args.text.now c.args.loaded became c.in-Err.fault c.in-Err.is c.args.kind)
