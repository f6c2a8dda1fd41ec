-- The result of a job, before anything is printed. A query results in no dataset, a check in
-- nothing but a dataset or the fault of the data, an update in no answer, and an explanation in
-- neither; a replay prints while it runs.
use Rattle.std.specs.Prelude.{ℕ, List, Result, Ok, Err}
use Rattle.qs_store.specs.Content.{Content, Held}
use Rattle.qs_store.specs.Same.{SameSet}
use Rattle.qs_store.specs.declared.default_graph.DefaultGraph.{DefaultGraph}
use Rattle.qs_query_forms.specs.Sequence.{dataset_of}
use Rattle.qs_terms.specs.Dataset.{IsDataset}
use Rattle.qs_terms.specs.Outcome.{OneOrOutOfMemory}
use Rattle.qs_store_load.specs.declared.fault.LoadFault.{LoadFault}
use Rattle.qs_store_load.specs.declared.fault.LoadFault.TheVariants.{Text, Store}
use Rattle.qs_nquads.specs.Nquads.{IsNquads, IsFault}
use Rattle.qs_nquads.specs.Written.{nquads_of}
use Rattle.qs_results.specs.Lines.{data_fault_line}
use Rattle.quads.specs.Due.{line}
use Rattle.quads.specs.inner.Outcomes.{IsQueryOfData, IsUpdateOfData, IsExplanationOfData}
use Rattle.quads.specs.inner.Outcomes.{outcome_line, explanation_line}
use Rattle.quads.specs.inner.Refusal.{fault_of}
use Rattle.quads.specs.inner.Load.{BecomesStored}
use Rattle.quads.specs.declared.result.JobResult.{JobResult}
use Rattle.quads.specs.declared.result.JobResult.TheVariants.{Answered, Quads, Explained}
use Rattle.quads.specs.declared.result.JobResult.TheVariants.{DataRefused, Refused}
use Rattle.quads.specs.declared.job.Job.{Job}
use Rattle.quads.specs.declared.job.Job.TheVariants.{Check, Query, Update, Replay, Explain}
use Rattle.quads.specs.declared.job.TextKind.{TextKind}

abbrev pub IsQueryResult : DefaultGraph → List ℕ → List ℕ → JobResult → Type 0
IsQueryResult choice file text (Answered answer) = IsQueryOfData choice file text (Ok answer)
IsQueryResult choice file text (Quads quads) = ⊥
IsQueryResult choice file text (Explained explanation) = ⊥
IsQueryResult choice file text (DataRefused f) = IsFault file 0 f.kind f.line
IsQueryResult choice file text (Refused f) =
    OneOrOutOfMemory (IsQueryOfData choice file text) (Err f)

abbrev pub IsCheckResult : List ℕ → JobResult → Type 0
IsCheckResult file (Answered answer) = ⊥
IsCheckResult file (Quads quads) =
    (next : ℕ) × IsNquads file 0 quads.items next × IsDataset (dataset_of quads.items next)
IsCheckResult file (Explained explanation) = ⊥
IsCheckResult file (DataRefused f) = IsFault file 0 f.kind f.line
IsCheckResult file (Refused f) = ⊥

abbrev pub IsUpdateResult : DefaultGraph → List ℕ → List ℕ → JobResult → Type 0
IsUpdateResult choice file text (Answered answer) = ⊥
IsUpdateResult choice file text (Quads quads) =
    (c : Content) × IsUpdateOfData choice file text (Ok c) × SameSet quads.items c.quads
IsUpdateResult choice file text (Explained explanation) = ⊥
IsUpdateResult choice file text (DataRefused f) = IsFault file 0 f.kind f.line
IsUpdateResult choice file text (Refused f) =
    OneOrOutOfMemory (IsUpdateOfData choice file text) (Err f)

abbrev pub IsExplanationResult : TextKind → List ℕ → List ℕ → JobResult → Type 0
IsExplanationResult kind file text (Answered answer) = ⊥
IsExplanationResult kind file text (Quads quads) = ⊥
IsExplanationResult kind file text (Explained explanation) =
    IsExplanationOfData kind file text (Ok explanation)
IsExplanationResult kind file text (DataRefused f) = IsFault file 0 f.kind f.line
IsExplanationResult kind file text (Refused f) =
    OneOrOutOfMemory (IsExplanationOfData kind file text) (Err f)

abbrev pub IsJobResult : Job → JobResult → Type 0
IsJobResult (Check file) end = IsCheckResult file.items end
IsJobResult (Query file text choice) end = IsQueryResult choice file.items text.items end
IsJobResult (Update file text choice) end = IsUpdateResult choice file.items text.items end
IsJobResult (Replay file script choice) end = ⊥
IsJobResult (Explain file text kind choice) end = IsExplanationResult kind file.items text.items end

-- the result of a query, of an update, or of an explanation, of any data that became this store or
-- this fault
abbrev pub IsQueryResultOver : Result Held LoadFault → List ℕ → JobResult → Type 0
IsQueryResultOver loaded text end = (choice : DefaultGraph) (file : List ℕ)
    → BecomesStored choice file loaded → IsQueryResult choice file text end

abbrev pub IsUpdateResultOver : Result Held LoadFault → List ℕ → JobResult → Type 0
IsUpdateResultOver loaded text end = (choice : DefaultGraph) (file : List ℕ)
    → BecomesStored choice file loaded → IsUpdateResult choice file text end

abbrev pub IsExplanationResultOver : TextKind → Result Held LoadFault → List ℕ → JobResult → Type 0
IsExplanationResultOver kind loaded text end = (choice : DefaultGraph) (file : List ℕ)
    → BecomesStored choice file loaded → IsExplanationResult kind file text end

-- the result of a job whose data aren't put into a store
abbrev pub load_refusal : LoadFault → JobResult
load_refusal (Text f) = DataRefused f
load_refusal (Store f) = Refused (fault_of f)

-- what is printed of the result
abbrev pub printed : JobResult → List ℕ
printed (Answered answer) = outcome_line (Ok answer)
printed (Quads quads) = nquads_of quads.items
printed (Explained explanation) = explanation_line (Ok explanation)
printed (DataRefused f) = line (data_fault_line f)
printed (Refused f) = outcome_line (Err f)

abbrev pub status : JobResult → ℕ
status (Answered answer) = 0
status (Quads quads) = 0
status (Explained explanation) = 0
status (DataRefused f) = 1
status (Refused f) = 1
