use Rattle.quads.proofs.Explained.{query_refused_too, update_refused_too}
use Rattle.quads.proofs.laws.explanations_are_refused_as_their_texts.Goals as goal

pub returns-clause-query : goal.returns-clause-query
returns-clause-query c = λ choice file text f. query_refused_too choice file text f c.same_set_is_an_equivalence.ensures.reflexive (λ t due. (c.explanations_are_refused_alike.ensures.query t f).0 due)

pub returns-clause-update : goal.returns-clause-update
returns-clause-update c = λ choice file text f. update_refused_too choice file text f (λ t due. (c.explanations_are_refused_alike.ensures.update t f).0 due)
