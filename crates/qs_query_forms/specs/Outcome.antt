-- What a query over a dataset is answered with: one of the answers that the algebra gives, or the
-- fault that is due (SPARQL 1.1 Query, 16 and 18).
use Rattle.std.specs.Prelude.{◌≡◌, ◌⊎◌, ◌<◌, ◌≤◌, ℕ, List, length, Ok, Err}
use Rattle.qs_terms.specs.declared.fault.QFault.TheVariants.{TooManyRows}
use Rattle.qs_terms.specs.Bag.{SameBag, once}
use Rattle.qs_terms.specs.Dataset.{Dataset, Triple}
use Rattle.qs_terms.specs.Outcome.{Outcome}
use Rattle.qs_terms.specs.Statement.{Statement, same_statement}
use Rattle.qs_algebra_solutions.specs.Solution.{Solution}
use Rattle.qs_algebra_solutions.specs.declared.answer.Answer.{Answer}
use Rattle.qs_algebra_solutions.specs.declared.answer.Answer.TheVariants.{Solutions, Truth, Graph}
use Rattle.qs_syntax_ast.specs.declared.query.Query.{Query}
use Rattle.qs_query_forms.specs.Request.{form_request}
use Rattle.qs_query_forms.specs.Sequence.{whole, sliced, IsSequence, IsPart, count, has_solution}
use Rattle.qs_query_template.specs.Instances.{made}
use Rattle.qs_query_forms.specs.declared.construction.Construction.{Construction}
use Rattle.qs_query_forms.specs.declared.request.Request.{Request}
use Rattle.qs_query_forms.specs.declared.request.Request.TheVariants.{Select, Construct, Ask}
use Rattle.qs_query_forms.specs.declared.selection.Selection.{Selection}

-- SELECT (16.1): a sequence of the solutions, or the fault that there are more than max_rows in it
abbrev pub IsSelected : Selection → List Solution → ℕ → Outcome Answer → Type 0
IsSelected asked solutions max_rows outcome =
    ((max_rows < count asked solutions) × (outcome ≡ Err TooManyRows))
    ⊎ ((count asked solutions ≤ max_rows) × (rows : List Solution) × IsSequence asked solutions rows
    × (outcome ≡ Ok (Solutions asked.vars rows)))

-- the set of quads that was made, each once, or why there is none
abbrev pub IsBuilt : Outcome (List Statement) → Outcome Answer → Type 0
IsBuilt (Ok quads) outcome = (set : List Statement) × SameBag set (once same_statement quads)
    × (outcome ≡ Ok (Graph set))
IsBuilt (Err f) outcome = outcome ≡ Err f

-- CONSTRUCT (16.2): the set of what the template makes of a part of the solutions in order, where
-- the fresh blank nodes have the numbers from the next one on; or the fault that there are more
-- than max_rows solutions in it, or that the numbers don't suffice
abbrev pub IsConstructed : Construction → ℕ → List Solution → ℕ → Outcome Answer → Type 0
IsConstructed asked next solutions max_rows outcome =
    ((max_rows < length (sliced asked.slice solutions)) × (outcome ≡ Err TooManyRows))
    ⊎ ((length (sliced asked.slice solutions) ≤ max_rows)
    × (part : List Solution) × IsPart asked.order asked.slice solutions part
    × IsBuilt (made asked.template next part) outcome)

-- by the form of the query; ASK (16.3): whether there is a solution, however many there are
abbrev pub IsAnswered : Request → Dataset → List Triple → ℕ → Outcome Answer → Type 0
IsAnswered (Select asked) d graph max_rows outcome =
    IsSelected asked (whole asked.pattern d.quads graph) max_rows outcome
IsAnswered (Construct asked) d graph max_rows outcome =
    IsConstructed asked d.next (whole asked.pattern d.quads graph) max_rows outcome
IsAnswered (Ask pattern) d graph max_rows outcome =
    outcome ≡ Ok (Truth (has_solution (whole pattern d.quads graph)))

-- the outcome of a query over the dataset, where these triples are the active graph
abbrev pub IsOutcomeOfQuery : Query → Dataset → List Triple → ℕ → Outcome Answer → Type 0
IsOutcomeOfQuery q d graph most outcome = IsAnswered (form_request q q.form) d graph most outcome
