-- The results of jobs, from their steps.
use Rattle.std.proofs.Common.{◌≡◌, List, ℕ, Result, Ok, Err, refl, subst}
use Rattle.qs_terms.specs.Outcome.{Outcome, OneOrOutOfMemory}
use Rattle.qs_terms.specs.declared.fault.QFault.{QFault}
use Rattle.qs_algebra_solutions.specs.declared.answer.Answer.{Answer}
use Rattle.qs_store_load.specs.declared.fault.LoadFault.{LoadFault}
use Rattle.qs_store_load.specs.declared.fault.LoadFault.TheVariants.{Text, Store}
use Rattle.qs_store.specs.Visible.{visible}
use Rattle.qs_query.specs.Outcome.{IsOutcomeOfText}
use Rattle.qs_query_forms.specs.Sequence.{dataset_of}
use Rattle.qs_service.specs.Language.{sparql}
use Rattle.qs_store.specs.Content.{Held, Content}
use Rattle.qs_store.specs.Same.{SameSet}
use Rattle.qs_store.specs.declared.default_graph.DefaultGraph.{DefaultGraph}
use Rattle.quads.specs.Due.{IsTextOf, IsExplained}
use Rattle.quads.specs.inner.Outcomes.{max_rows, IsQueryOutcome, IsQueryOfData, IsUpdateOutcome, IsUpdateOfData, IsExplanationOutcome, IsExplanationOfData}
use Rattle.quads.specs.declared.job.TextKind.{TextKind}
use Rattle.quads.specs.inner.JobResult.{IsQueryResult, IsUpdateResult, IsExplanationResult, load_refusal}
use Rattle.quads.specs.inner.Load.{BecomesStored}
use Rattle.quads.proofs.Loads.{over_data}
use Rattle.quads.specs.inner.Refusal.{refusal_of}
use Rattle.quads.specs.inner.Service.{IsRefusalOf}

-- bytes that are no text have the fault that is due
pub no_text : (choice : DefaultGraph) (bytes : List ℕ) (c : Content) (f : QFault) → IsTextOf bytes (Err f) → OneOrOutOfMemory (IsQueryOutcome choice bytes c) (Err f)
no_text choice bytes c f is = λ _. (Err f, is, refl)

module _ (held : Held) (bytes text : List ℕ) (same : SameSet held.base.quads held.base.quads) (is : IsTextOf bytes (Ok text)) where
  over : (r : Outcome Answer) → IsOutcomeOfText text (dataset_of (visible held.default_graph held.base.quads) held.base.next) max_rows r → IsQueryOutcome held.default_graph bytes held.base r
  unfolding sparql
  over r due = (Ok text, is, (held.base.quads, same, due))

  -- what a text is answered with is what its bytes are
  pub of_text : (r : Outcome Answer) → OneOrOutOfMemory (IsOutcomeOfText text (dataset_of (visible held.default_graph held.base.quads) held.base.next) max_rows) r → OneOrOutOfMemory (IsQueryOutcome held.default_graph bytes held.base) r
  of_text (Ok answer) due = over (Ok answer) due
  of_text (Err f) due = λ other. over (Err f) (due other)

-- the same of an explanation
pub no_explained_text : (kind : TextKind) (bytes : List ℕ) (c : Content) (f : QFault) → IsTextOf bytes (Err f) → OneOrOutOfMemory (IsExplanationOutcome kind bytes c) (Err f)
no_explained_text kind bytes c f is = λ _. (Err f, is, refl)

module _ (kind : TextKind) (bytes text : List ℕ) (c : Content) (is : IsTextOf bytes (Ok text)) where
  pub of_explained_text : (r : Outcome (List ℕ)) → OneOrOutOfMemory (IsExplained kind text) r → OneOrOutOfMemory (IsExplanationOutcome kind bytes c) r
  of_explained_text (Ok explanation) due = (Ok text, is, due)
  of_explained_text (Err f) due = λ other. (Ok text, is, due other)

-- data that aren't put into a store
pub query_refusal : (choice : DefaultGraph) (file text : List ℕ) (f : LoadFault) → IsRefusalOf file (refusal_of f) → IsQueryResult choice file text (load_refusal f)
query_refusal choice file text (Text f) h = h
query_refusal choice file text (Store f) h = λ n. (Err _, h n, refl)

pub update_refusal : (choice : DefaultGraph) (file text : List ℕ) (f : LoadFault) → IsRefusalOf file (refusal_of f) → IsUpdateResult choice file text (load_refusal f)
update_refusal choice file text (Text f) h = h
update_refusal choice file text (Store f) h = λ n. (Err _, h n, refl)

pub explanation_refusal : (kind : TextKind) (file text : List ℕ) (f : LoadFault) → IsRefusalOf file (refusal_of f) → IsExplanationResult kind file text (load_refusal f)
explanation_refusal kind file text (Text f) h = h
explanation_refusal kind file text (Store f) h = λ n. (Err _, h n, refl)

module _ (choice : DefaultGraph) (file text : List ℕ) (loaded : Result Held LoadFault) (became : BecomesStored choice file loaded) where
  module _ (held : Held) (is : loaded ≡ Ok held) where
    stored : BecomesStored choice file (Ok held)
    stored = subst (λ (r : Result Held LoadFault). BecomesStored choice file r) is became

    -- the outcome of a query over the store is that over the data
    pub query_over : (r s : Outcome Answer) → r ≡ s → OneOrOutOfMemory (IsQueryOutcome held.default_graph text held.base) r → OneOrOutOfMemory (IsQueryOfData choice file text) s
    query_over r s same due =
        over_data (IsQueryOutcome choice text) file held.base stored.0 r s same (subst (λ (d : DefaultGraph). OneOrOutOfMemory (IsQueryOutcome d text held.base) r) stored.2 due)

    -- the outcome of an update of the store is that of the data
    pub update_over : (r : Outcome Content) → IsUpdateOutcome held.default_graph text held.base r → IsUpdateOfData choice file text r
    update_over r due = (Ok held.base, stored.0, subst (λ (d : DefaultGraph). IsUpdateOutcome d text held.base r) stored.2 due)

    -- the explanation of a text over the store is that over the data
    pub explanation_over : (kind : TextKind) (r s : Outcome (List ℕ)) → r ≡ s → OneOrOutOfMemory (IsExplanationOutcome kind text held.base) r → OneOrOutOfMemory (IsExplanationOfData kind file text) s
    explanation_over kind r s same due = over_data (IsExplanationOutcome kind text) file held.base stored.0 r s same due

  module _ (f : LoadFault) (is : loaded ≡ Err f) where
    refused : BecomesStored choice file (Err f)
    refused = subst (λ (r : Result Held LoadFault). BecomesStored choice file r) is became

    pub query_refused : IsQueryResult choice file text (load_refusal f)
    query_refused = query_refusal choice file text f refused

    pub update_refused : IsUpdateResult choice file text (load_refusal f)
    update_refused = update_refusal choice file text f refused

    pub explanation_refused : (kind : TextKind) → IsExplanationResult kind file text (load_refusal f)
    explanation_refused kind = explanation_refusal kind file text f refused
