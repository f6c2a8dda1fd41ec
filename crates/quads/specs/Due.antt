-- What is due of a job: the bytes that are printed, and the exit status, 1 where the job is refused
-- or out of memory and else 0. The data of a check are printed as N-Quads. Those of the other jobs
-- are put into a new store, with the default graph that the job chooses. Over it a query is
-- answered, and of an update the dataset after it is printed. Of a replay it is the lines of a run
-- of its events, and of an explanation some text. Or the first fault is told, of the data before
-- that of the text or the script. What a job prints is two relations: what is due whole, and what
-- may have been begun. A job that prints as it goes, and whose sink fails, has more of the second.
use Rattle.std.specs.Prelude.{◌≡◌, ◌⊎◌, ◌∷◌, ◌++◌, [], ℕ, List, Ok, Err, codes, decimal}
use Rattle.std.specs.Prelude.{MatchResult}
use Rattle.std.specs.Str.{IsUtf8, IsValidUpTo}
use Rattle.serde_json.specs.Written.{compact_text}
use Rattle.qs_terms.specs.Dataset.{IsDataset}
use Rattle.qs_terms.specs.Outcome.{Outcome, IsDueAfter, OneOrOutOfMemory}
use Rattle.qs_terms.specs.Statement.{Statement}
use Rattle.qs_terms.specs.declared.fault.QFault.{QFault}
use Rattle.qs_terms.specs.declared.fault.QFault.TheVariants as fault
use Rattle.qs_nquads.specs.Nquads.{IsNquads, IsFault}
use Rattle.qs_nquads.specs.declared.fault.NqFault.{NqFault}
use Rattle.qs_store.specs.Content.{Content}
use Rattle.qs_store.specs.declared.default_graph.DefaultGraph.{DefaultGraph}
use Rattle.qs_algebra_solutions.specs.declared.answer.Answer.{Answer}
use Rattle.qs_algebra_solutions.specs.declared.answer.Answer.TheVariants.{Solutions, Truth, Graph}
use Rattle.qs_nquads.specs.Written.{nquads_of}
use Rattle.qs_query_forms.specs.Sequence.{dataset_of}
use Rattle.qs_update.specs.Request.{Bounds, IsCarriedOut}
use Rattle.qs_results.specs.Json.{json_of}
use Rattle.qs_results.specs.Lines.{fault_line, data_fault_line}
use Rattle.qs_results.specs.Triples.{ntriples_of}
use Rattle.qs_service.specs.Carried.{Carries}
use Rattle.qs_service.specs.Language.{sparql, IsWritten}
use Rattle.qs_service.specs.State.{State}
use Rattle.qs_service_connections.specs.Step.{Event}
use Rattle.qs_service_replay.specs.Replay.{Replays}
use Rattle.qs_service_replay.specs.Replayed.{StopsAt}
use Rattle.qs_service_replay.specs.Script.{IsScript, IsOtherLine}
use Rattle.qs_explain.specs.Explained.{IsExplainedQuery, IsExplainedUpdate}
use Rattle.quads.specs.declared.job.Job.{Job}
use Rattle.quads.specs.declared.job.Job.TheVariants.{Check, Query, Update, Replay, Explain}
use Rattle.quads.specs.declared.job.TextKind.{TextKind}
use Rattle.quads.specs.declared.job.TextKind.TheVariants as kind

-- ---- what the data result in in a store

-- the most terms that the store knows: as many as there are numbers for them
abbrev pub max_terms : ℕ
max_terms = 4294967295

-- those of a store with this default graph; a query, after OFFSET and LIMIT, and a WHERE of an
-- update have at most 1,000,000 solutions
abbrev pub bounds : DefaultGraph → Bounds
bounds choice = record { terms = max_terms; rows = 1000000; default_graph = choice }

-- what a new store holds
abbrev pub empty : Content
empty = record { quads = []; next = 0; known = [] }

-- what a new store holds once the quads are put into it that N-Quads are, whose blank nodes are
-- numbered from 0; or the fault that this finds no room for their terms
abbrev pub IsLoaded : List ℕ → Outcome Content → Type 0
IsLoaded file first = (quads : List Statement) × (next : ℕ) × IsNquads file 0 quads next
    × IsCarriedOut max_terms empty (Ok (record { removed = []; added = quads; next = next })) first

-- what is due over the data, which are put into a new store before
abbrev pub IsOverData : {A : Type 0} → (Content → Outcome A → Type 0) → List ℕ → Outcome A → Type 0
IsOverData Due file out = (first : Outcome Content) × IsLoaded file first × IsDueAfter Due first out

-- the bytes are a text; where they aren't UTF-8, the fault is at the first bad byte
abbrev pub IsTextOf : List ℕ → Outcome (List ℕ) → Type 0
IsTextOf bytes (Ok text) = IsUtf8 bytes × (text ≡ bytes)
IsTextOf bytes (Err f) =
    (¬ (IsUtf8 bytes)) × ((place : ℕ) × IsValidUpTo bytes place × (f ≡ fault.Syntax place))

-- what is due of the text that the bytes of a file are, or the fault that they are none
abbrev pub IsOfText : {A : Type 0} → (List ℕ → Outcome A → Type 0) → List ℕ → Outcome A → Type 0
IsOfText Due bytes out = (text : Outcome (List ℕ)) × IsTextOf bytes text × IsDueAfter Due text out

-- ---- what is printed of a text

-- the explanation of a text that is a query's, or an update's
abbrev pub IsExplained : TextKind → List ℕ → Outcome (List ℕ) → Type 0
IsExplained kind.Query text outcome = IsExplainedQuery text outcome
IsExplained kind.Update text outcome = IsExplainedUpdate text outcome

-- the text with LF
abbrev pub line : List ℕ → List ℕ
line text = text ++ 10 ∷ []

-- an answer: as a line of JSON, or a graph as N-Triples
abbrev pub answer_text : Answer → List ℕ
answer_text (Solutions vars rows) = line (compact_text (json_of (Solutions vars rows)))
answer_text (Truth b) = line (compact_text (json_of (Truth b)))
answer_text (Graph quads) = ntriples_of (Graph quads)

-- the line of the fault, with status 1
abbrev pub IsRefusal : QFault → List ℕ → ℕ → Type 0
IsRefusal f bytes status = (bytes ≡ line (fault_line f)) × (status ≡ 1)

-- this is told of a value, with status 0, or the fault is told
abbrev pub IsTold : {A : Type 0} → (A → List ℕ → Type 0) → Outcome A → List ℕ → ℕ → Type 0
IsTold Tells (Ok value) bytes status = Tells value bytes × (status ≡ 0)
IsTold Tells (Err f) bytes status = IsRefusal f bytes status

-- the data are quads, and this is told of what the text, that the bytes of a file are, results in
-- over them, or of running out of memory
abbrev pub IsDueOfText : {A : Type 0} → (List ℕ → Content → Outcome A → Type 0)
    → (A → List ℕ → Type 0) → List ℕ → List ℕ → List ℕ → ℕ → Type 0
IsDueOfText {A} Results Tells file text bytes status =
    (outcome : Outcome A)
    × OneOrOutOfMemory (IsOverData (λ c. IsOfText (λ t. Results t c) text) file) outcome
    × IsTold Tells outcome bytes status

-- the data are none, and this is the line of their fault
abbrev pub IsDueOfData : List ℕ → List ℕ → ℕ → Type 0
IsDueOfData file bytes status = (f : NqFault) × IsFault file 0 f.kind f.line
    × (bytes ≡ line (data_fault_line f)) × (status ≡ 1)

-- ---- what a replay results in

-- a service over what a store with this default graph holds, with no connection
abbrev pub service_over : DefaultGraph → Content → State
service_over d c = record { stored = record { content = c; bounds = bounds d }; joined = [] }

-- what is printed of events that are carried out: all that a run of them writes; or what those
-- before some event write, and the line of running out of memory, where memory ran out for what
-- that one writes
abbrev pub IsDueOfEvents : State → List Event → List ℕ → ℕ → Type 0
IsDueOfEvents old events bytes status =
    ((new : State) × Replays (Carries sparql) old 1 events new bytes × (status ≡ 0))
    ⊎ ((new : State) × (text rest : List ℕ) × StopsAt (Carries sparql) old events new text rest
    × (bytes ≡ text ++ line (fault_line fault.Memory)) × (status ≡ 1))

-- the text is a script, and this is printed of its events; or it is none, nothing is run, and this
-- is the line of the first line that tells no event
abbrev pub IsDueOfScript : State → List ℕ → List ℕ → ℕ → Type 0
IsDueOfScript old script bytes status =
    ((events : List Event) × IsScript script events × IsDueOfEvents old events bytes status)
    ⊎ ((n : ℕ) × IsOtherLine script n × (bytes ≡ line (codes "script line " ++ decimal n))
    × (status ≡ 1))

-- the data are quads, and this is printed of the script over a store that they are put into
abbrev pub IsDueOfReplay : DefaultGraph → List ℕ → List ℕ → List ℕ → ℕ → Type 0
IsDueOfReplay choice file script bytes status =
    (first : Outcome Content) × IsLoaded file first × MatchResult first
    (λ c. IsDueOfScript (service_over choice c) script bytes status) (λ f. IsRefusal f bytes status)

-- ---- what is due of a job

-- these bytes, whole, and this status are due of the job: of a check, the data that are a dataset,
-- as N-Quads; of an update, the quads of the store after it, as N-Quads. The order of quads means
-- nothing, since lines of N-Quads ascend
abbrev pub IsDue : Job → List ℕ → ℕ → Type 0
IsDue (Check file) bytes status =
    ((quads : List Statement) × (next : ℕ) × IsNquads file.items 0 quads next
    × IsDataset (dataset_of quads next) × (bytes ≡ nquads_of quads) × (status ≡ 0))
    ⊎ (IsRefusal fault.Memory bytes status ⊎ IsDueOfData file.items bytes status)
IsDue (Query file text choice) bytes status =
    IsDueOfText (sparql.answers (bounds choice)) (λ answer told. told ≡ answer_text answer)
    file.items text.items bytes status ⊎ IsDueOfData file.items bytes status
IsDue (Update file text choice) bytes status =
    IsDueOfText (sparql.changes (bounds choice)) IsWritten file.items text.items bytes status
    ⊎ IsDueOfData file.items bytes status
IsDue (Replay file script choice) bytes status =
    IsDueOfReplay choice file.items script.items bytes status
    ⊎ (IsRefusal fault.Memory bytes status ⊎ IsDueOfData file.items bytes status)
IsDue (Explain file text k choice) bytes status =
    IsDueOfText (λ t c. IsExplained k t) (λ explanation told. told ≡ explanation)
    file.items text.items bytes status ⊎ IsDueOfData file.items bytes status

-- the job may have begun to print these bytes: those that are due; of a replay, what some of the
-- events write, from the front, that were carried out
abbrev pub IsBegun : Job → List ℕ → Type 0
IsBegun (Replay file script choice) bytes =
    ((status : ℕ) × IsDue (Replay file script choice) bytes status)
    ⊎ ((c : Content) × (events : List Event) × (new : State) × (text end : List ℕ)
    × IsLoaded file.items (Ok c) × IsScript script.items events
    × StopsAt (Carries sparql) (service_over choice c) events new text end × (bytes ≡ text ++ end))
IsBegun job bytes = (status : ℕ) × IsDue job bytes status
