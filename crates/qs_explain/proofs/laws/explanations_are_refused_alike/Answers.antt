use Rattle.qs_syntax.specs.Outcome.{IsQueryOutcome, IsUpdateOutcome}
use Rattle.qs_explain.proofs.Refused.{refused, explained}
use Rattle.qs_explain.proofs.laws.explanations_are_refused_alike.Goals as goal

pub returns-clause-query : goal.returns-clause-query
returns-clause-query c = λ text f. (refused (IsQueryOutcome text) f, explained (IsQueryOutcome text) f)

pub returns-clause-update : goal.returns-clause-update
returns-clause-update c = λ text f. (refused (IsUpdateOutcome text) f, explained (IsUpdateOutcome text) f)
