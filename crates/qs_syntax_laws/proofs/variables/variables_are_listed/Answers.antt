use Rattle.qs_syntax_laws.proofs.NotedQueries.{query_is_listed}
use Rattle.qs_syntax_laws.proofs.NotedOutcomes.{query_of_text, update_of_text}
use Rattle.qs_syntax_laws.proofs.variables.variables_are_listed.Goals as goal

pub returns-clause-of_tree : goal.returns-clause-of_tree
returns-clause-of_tree c = query_is_listed

pub returns-clause-of_query : goal.returns-clause-of_query
returns-clause-of_query c = query_of_text c.first_variables_are_all.ensures.names

pub returns-clause-of_update : goal.returns-clause-of_update
returns-clause-of_update c = update_of_text
