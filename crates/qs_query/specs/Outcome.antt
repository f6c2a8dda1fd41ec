-- What the text of a query over a dataset is answered with (SPARQL 1.1 Query, 16 and 18): one of
-- the answers that the algebra gives, or the one fault that is due. A call may answer running out
-- of memory instead.
use Rattle.std.specs.Prelude.{ℕ, List, None}
use Rattle.qs_terms.specs.Dataset.{Dataset, graph_of}
use Rattle.qs_algebra_solutions.specs.declared.answer.Answer.{Answer}
use Rattle.qs_syntax_ast.specs.declared.query.Query.{Query}
use Rattle.qs_terms.specs.Outcome.{Outcome, IsDueAfter}
use Rattle.qs_syntax.specs.Outcome.{IsQueryOutcome}
use Rattle.qs_query_forms.specs.Outcome.{IsOutcomeOfQuery}

-- the outcome of the text over the dataset, where the default graph is active: a text without fault
-- is answered as its query is
abbrev pub IsOutcomeOfText : List ℕ → Dataset → ℕ → Outcome Answer → Type 0
IsOutcomeOfText text d max_rows outcome = (parsed : Outcome Query) × IsQueryOutcome text parsed
    × IsDueAfter (λ q. IsOutcomeOfQuery q d (graph_of d.quads None) max_rows) parsed outcome
