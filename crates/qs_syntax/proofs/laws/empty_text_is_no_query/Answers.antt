use Rattle.qs_syntax.proofs.NoTokens as law
use Rattle.qs_syntax.proofs.laws.empty_text_is_no_query.Goals as goal

pub returns-clause-fault : goal.returns-clause-fault
returns-clause-fault c = law.empty_text

pub returns-clause-no_token : goal.returns-clause-no_token
returns-clause-no_token c = c.one_token_list.ensures.nothing
