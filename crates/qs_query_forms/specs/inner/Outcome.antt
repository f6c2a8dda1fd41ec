-- Definitions over those of `Outcome`, for proofs and the layers between.
use Rattle.std.specs.Prelude.{◌≡◌, ◌⊎◌, ◌<◌, ◌≤◌, ℕ, List, length, Ok, Err}
use Rattle.qs_terms.specs.declared.fault.QFault.TheVariants.{TooManyRows}
use Rattle.qs_terms.specs.Bag.{SameBag}
use Rattle.qs_terms.specs.Outcome.{Outcome}
use Rattle.qs_algebra_solutions.specs.Solution.{Solution}
use Rattle.qs_algebra_solutions.specs.declared.answer.Answer.{Answer}
use Rattle.qs_algebra_solutions.specs.declared.answer.Answer.TheVariants.{Solutions, Truth}
use Rattle.qs_algebra_patterns.specs.declared.named_pattern.Pattern.{Pattern}
use Rattle.qs_query_forms.specs.Sequence.{has_solution}

-- ASK (SPARQL 1.1 Query, 16.3): whether there is a solution, however many there are
abbrev pub IsAsked : List Solution → Outcome Answer → Type 0
IsAsked solutions outcome = outcome ≡ Ok (Truth (has_solution solutions))

-- all solutions of a pattern with its variables, as an update's WHERE has them, or the fault that
-- there are more than max_rows
abbrev pub IsAllSolutions : Pattern → List Solution → ℕ → Outcome Answer → Type 0
IsAllSolutions pattern solutions max_rows outcome =
    ((max_rows < length solutions) × (outcome ≡ Err TooManyRows))
    ⊎ ((length solutions ≤ max_rows) × (rows : List Solution) × SameBag rows solutions
    × (outcome ≡ Ok (Solutions pattern.names rows)))
