use Rattle.std.proofs.Common.{Ok, Err}
use Rattle.quads.proofs.Results.{query_over, query_refused}
use Rattle.quads.proofs.query.query_result.Goals as goal

pub returns-in-Ok-outcome : goal.returns-in-Ok-outcome
returns-in-Ok-outcome c = λ choice file became.
    query_over choice file c.args.text.now c.args.loaded became c.in-Ok.store c.in-Ok.is c.text_answer-outcome.result (Ok c.in-Ok-outcome.answer) c.in-Ok-outcome.is c.text_answer-outcome.ensures

pub returns-in-Err-outcome : goal.returns-in-Err-outcome
returns-in-Err-outcome c = λ choice file became.
    query_over choice file c.args.text.now c.args.loaded became c.in-Ok.store c.in-Ok.is c.text_answer-outcome.result (Err c.in-Err-outcome.fault) c.in-Err-outcome.is c.text_answer-outcome.ensures

pub returns-in-Err : goal.returns-in-Err
returns-in-Err c = λ choice file became. rw c.load_refusal.ensures (query_refused choice file c.args.text.now c.args.loaded became c.in-Err.fault c.in-Err.is)
