-- The refusals of explanations are those of queries and of updates.
use Rattle.std.proofs.Common.{◌≡◌, ℕ, List, Ok, Err, refl, ap}
use Rattle.qs_terms.specs.Outcome.{Outcome, IsDueAfter}
use Rattle.qs_terms.specs.Statement.{Statement}
use Rattle.qs_terms.specs.declared.fault.QFault.{QFault}
use Rattle.qs_syntax.specs.Outcome as syntax
use Rattle.qs_explain.specs.Explained.{IsExplainedQuery, IsExplainedUpdate}
use Rattle.qs_service.specs.Language.{sparql}
use Rattle.qs_store.specs.Content.{Content}
use Rattle.qs_store.specs.Same.{SameSet}
use Rattle.qs_store.specs.declared.default_graph.DefaultGraph.{DefaultGraph}
use Rattle.quads.specs.inner.Outcomes.{IsQueryOutcome, IsQueryOfData, IsUpdateOutcome, IsUpdateOfData, IsExplanationOutcome, IsExplanationOfData}
use Rattle.quads.specs.declared.job.TextKind.TheVariants as kind

-- the fault of an explanation as that of another outcome
told : {A : Type 0} → QFault → Outcome (List ℕ) → Outcome A
told f (Ok explanation) = Err f
told f (Err g) = Err g

module _ (choice : DefaultGraph) (file bytes : List ℕ) (f : QFault) where
  module _ (same : (a : List Statement) → SameSet a a) (alike : (text : List ℕ) → IsExplainedQuery text (Err f) → syntax.IsQueryOutcome text (Err f)) where
    of_query : (first : Outcome Content) → IsDueAfter (IsExplanationOutcome kind.Query bytes) first (Err f) → IsDueAfter (IsQueryOutcome choice bytes) first (Err f)
    unfolding sparql told
    of_query (Ok c) (Ok text, is, due) = (Ok text, is, (c.quads, same c.quads, (Err f, alike text due, refl)))
    of_query (Ok c) (Err g, is, due) = (Err g, is, ap (told f) due)
    of_query (Err g) due = ap (told f) due

    pub query_refused_too : IsExplanationOfData kind.Query file bytes (Err f) → IsQueryOfData choice file bytes (Err f)
    query_refused_too (first, is, over) = (first, is, of_query first over)

  module _ (alike : (text : List ℕ) → IsExplainedUpdate text (Err f) → syntax.IsUpdateOutcome text (Err f)) where
    of_update : (first : Outcome Content) → IsDueAfter (IsExplanationOutcome kind.Update bytes) first (Err f) → IsDueAfter (IsUpdateOutcome choice bytes) first (Err f)
    unfolding sparql told
    of_update (Ok c) (Ok text, is, due) = (Ok text, is, (Err f, alike text due, refl))
    of_update (Ok c) (Err g, is, due) = (Err g, is, ap (told f) due)
    of_update (Err g) due = ap (told f) due

    pub update_refused_too : IsExplanationOfData kind.Update file bytes (Err f) → IsUpdateOfData choice file bytes (Err f)
    update_refused_too (first, is, over) = (first, is, of_update first over)
