use Rattle.qs_syntax.specs.Outcome.{query_outcome, update_outcome}
use Rattle.qs_syntax_tree.proofs.SameRules.{query_same, update_same}
use Rattle.qs_syntax_tree.proofs.Sure.{query_starts, update_starts}
use Rattle.qs_syntax_tree.specs.Rules as rules
use Rattle.qs_syntax.proofs.SomeOutcome as law
use Rattle.qs_syntax.proofs.laws.some_outcome.Goals as goal

pub returns-clause-of_query : goal.returns-clause-of_query
returns-clause-of_query c = law.some_outcome rules.query (rw query_same query_starts) c.some_token_list.ensures query_outcome

pub returns-clause-of_update : goal.returns-clause-of_update
returns-clause-of_update c = law.some_outcome rules.update (rw update_same update_starts) c.some_token_list.ensures update_outcome
