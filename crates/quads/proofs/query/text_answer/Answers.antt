use Rattle.quads.proofs.Results.{no_text, of_text}
use Rattle.quads.proofs.query.text_answer.Goals as goal

pub returns-in-Ok : goal.returns-in-Ok
returns-in-Ok c =
    of_text c.args.store.now c.args.text.now c.in-Ok.text.now (c.same_set_is_an_equivalence.ensures.reflexive c.args.store.now.base.quads) c.in-Ok.ensures c.answer.result c.answer.ensures

pub returns-in-Err : goal.returns-in-Err
returns-in-Err c = no_text c.args.store.now.default_graph c.args.text.now c.args.store.now.base c.in-Err.fault c.in-Err.ensures
