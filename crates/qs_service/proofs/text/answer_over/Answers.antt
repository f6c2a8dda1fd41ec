use Rattle.qs_service.proofs.Texts.{answered}
use Rattle.qs_service.proofs.text.answer_over.Goals as goal

pub returns : goal.returns
returns c =
    answered c.args.store.now c.args.text.now c.args.max_rows c.answer.result (c.same_set_is_an_equivalence.ensures.reflexive c.args.store.now.base.quads) c.answer.ensures
