-- What the explanation of a text results in: the fault that its query or its update has for the
-- text, or some explanation. No more is said of an explanation than that it is a text.
use Rattle.std.specs.Prelude.{ℕ, List, IsOkAnd}
use Rattle.qs_terms.specs.Outcome.{Outcome, IsDueAfter}
use Rattle.qs_syntax_ast.specs.declared.query.Query.{Query}
use Rattle.qs_syntax_ast.specs.declared.update.Update.{Update}
use Rattle.qs_syntax.specs.Outcome.{IsQueryOutcome, IsUpdateOutcome}

-- a text without fault has some explanation, and the fault of another is that of its explanation
abbrev pub IsExplanationOf : {A : Type 0} → Outcome A → Outcome (List ℕ) → Type 0
IsExplanationOf parsed outcome = IsDueAfter (λ _ o. IsOkAnd o (λ _. Unit {0})) parsed outcome

-- the text is a query's
abbrev pub IsExplainedQuery : List ℕ → Outcome (List ℕ) → Type 0
IsExplainedQuery text outcome =
    (parsed : Outcome Query) × IsQueryOutcome text parsed × IsExplanationOf parsed outcome

-- the text is an update's
abbrev pub IsExplainedUpdate : List ℕ → Outcome (List ℕ) → Type 0
IsExplainedUpdate text outcome =
    (parsed : Outcome Update) × IsUpdateOutcome text parsed × IsExplanationOf parsed outcome
