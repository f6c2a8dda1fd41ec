use Rattle.qs_syntax_tree.proofs.Unambiguous.{one_query, one_update}
use Rattle.qs_syntax_tree.proofs.laws.one_tree.Goals as goal

pub returns-clause-of_query : goal.returns-clause-of_query
returns-clause-of_query c = one_query

pub returns-clause-of_update : goal.returns-clause-of_update
returns-clause-of_update c = one_update
