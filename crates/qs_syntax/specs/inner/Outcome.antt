-- Definitions over those of `Outcome`, for proofs and the layers between.
use Rattle.std.specs.Prelude.{ℕ, List, [], ◌∷◌, None}
use Rattle.qs_syntax_ast.specs.declared.query.Query.{Query}
use Rattle.qs_syntax_scope.specs.Firsts.{firsts}
use Rattle.qs_syntax_tree.specs.declared.token.Token.{Token}
use Rattle.qs_syntax_tree.specs.declared.update.Update.{Update as WrittenUpdate}
use Rattle.qs_syntax_tree.specs.Sparql.{Rule}
use Rattle.qs_syntax.specs.Outcome.{AfterScreen, screened}
use Rattle.qs_terms.specs.Outcome.{Outcome}

-- what no token spells: one step, without an operation
abbrev pub no_operation : WrittenUpdate
no_operation = record { steps = record { prologue = []; operation = None } ∷ [] }

-- with its variables listed once each
abbrev pub listed_query : Query → Query
listed_query query = record query { variables = firsts query.variables }

-- ---- the whole, of tokens

abbrev pub IsOutcomeOfTokens : {A B : Type 0} → Rule A → (A → Outcome B) → List ℕ → List Token
    → Outcome B → Type 0
IsOutcomeOfTokens start settle text tokens outcome =
    AfterScreen start settle text tokens (screened text tokens) outcome
