-- What the texts of requests mean (SPARQL 1.1 Protocol, 2): a parameter of what a request does, so
-- that this is read apart from it.
use Rattle.std.specs.Prelude.{◌≡◌, ℕ, List}
use Rattle.qs_terms.specs.Outcome.{Outcome}
use Rattle.qs_terms.specs.Statement.{Statement}
use Rattle.qs_algebra_solutions.specs.declared.answer.Answer.{Answer}
use Rattle.qs_nquads.specs.Written.{nquads_of}
use Rattle.qs_store.specs.Visible.{visible}
use Rattle.qs_query.specs.Outcome as query
use Rattle.qs_query_forms.specs.Sequence.{dataset_of}
use Rattle.qs_store.specs.Content.{Content}
use Rattle.qs_store.specs.Same.{SameSet}
use Rattle.qs_update.specs.Outcome as update
use Rattle.qs_update.specs.Request.{Bounds}

-- the outcomes of a query's text and of an update's over what is stored, and its written form
pub record Language : Type 1 where
  pub answers : Bounds → List ℕ → Content → Outcome Answer → Type 0
  pub changes : Bounds → List ℕ → Content → Outcome Content → Type 0
  pub writes : Content → List ℕ → Type 0

-- a query's text over the stored quads, whose order means nothing, as they are seen with the
-- default graph (SPARQL 1.1 Query, 13.1)
abbrev pub IsAnswer : Bounds → List ℕ → Content → Outcome Answer → Type 0
IsAnswer bounds text c outcome =
    (quads : List Statement) × SameSet quads c.quads
    × query.IsOutcomeOfText text (dataset_of (visible bounds.default_graph quads) c.next)
    bounds.rows outcome

-- the stored quads as N-Quads, whose lines ascend, so that the order of the quads means nothing
abbrev pub IsWritten : Content → List ℕ → Type 0
IsWritten c bytes = (quads : List Statement) × SameSet quads c.quads × (bytes ≡ nquads_of quads)

-- what SPARQL and N-Quads say; an update's text has the outcomes of SPARQL 1.1 Update, 3
unfoldable pub sparql : Language
sparql = record { answers = IsAnswer; changes = update.IsOutcomeOfText; writes = IsWritten }
