use Rattle.qs_syntax.specs.Outcome.{query_outcome, update_outcome}
use Rattle.qs_syntax_tree.specs.Rules as rules
use Rattle.qs_syntax.proofs.OneOutcome as law
use Rattle.qs_syntax.proofs.laws.one_outcome.Goals as goal

pub returns-clause-of_query : goal.returns-clause-of_query
returns-clause-of_query c =
    law.one_outcome rules.query c.one_tree.ensures.of_query c.one_token_list.ensures.lists c.one_token_list.ensures.apart c.one_token_list.ensures.places query_outcome

pub returns-clause-of_update : goal.returns-clause-of_update
returns-clause-of_update c =
    law.one_outcome rules.update c.one_tree.ensures.of_update c.one_token_list.ensures.lists c.one_token_list.ensures.apart c.one_token_list.ensures.places update_outcome
