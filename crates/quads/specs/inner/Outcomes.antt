-- What the texts of jobs result in, and what is printed of it.
use Rattle.std.specs.Prelude.{◌≡◌, ◌++◌, ℕ, List, Ok, Err, codes, decimal}
use Rattle.qs_terms.specs.Outcome.{Outcome}
use Rattle.qs_terms.specs.declared.fault.QFault.TheVariants as fault
use Rattle.qs_algebra_solutions.specs.declared.answer.Answer.{Answer}
use Rattle.qs_results.specs.Lines.{fault_line}
use Rattle.qs_service.specs.Carried.{Carries}
use Rattle.qs_service.specs.Language.{sparql}
use Rattle.qs_service.specs.State.{State}
use Rattle.qs_service_connections.specs.Step.{Event}
use Rattle.qs_service_replay.specs.Replayed.{StopsAt}
use Rattle.qs_service_replay.specs.Script.{IsScript}
use Rattle.qs_store.specs.Content.{Content}
use Rattle.qs_store.specs.declared.default_graph.DefaultGraph.{DefaultGraph}
use Rattle.quads.specs.Due.{bounds, line, answer_text, IsOfText, IsOverData, IsExplained, IsRefusal}
use Rattle.quads.specs.Due.{IsLoaded, service_over}
use Rattle.quads.specs.declared.job.TextKind.{TextKind}

-- the most solutions of a query, after OFFSET and LIMIT, and of a WHERE of an update
abbrev pub max_rows : ℕ
max_rows = 1000000

-- what the bytes of a query's file result in over what a store with this default graph holds
abbrev pub IsQueryOutcome : DefaultGraph → List ℕ → Content → Outcome Answer → Type 0
IsQueryOutcome choice bytes c outcome =
    IsOfText (λ text. sparql.answers (bounds choice) text c) bytes outcome

-- the same over the data
abbrev pub IsQueryOfData : DefaultGraph → List ℕ → List ℕ → Outcome Answer → Type 0
IsQueryOfData choice file text outcome = IsOverData (IsQueryOutcome choice text) file outcome

-- what the bytes of an update's file result in over what a store with this default graph holds
abbrev pub IsUpdateOutcome : DefaultGraph → List ℕ → Content → Outcome Content → Type 0
IsUpdateOutcome choice bytes old outcome =
    IsOfText (λ text. sparql.changes (bounds choice) text old) bytes outcome

-- the same over the data
abbrev pub IsUpdateOfData : DefaultGraph → List ℕ → List ℕ → Outcome Content → Type 0
IsUpdateOfData choice file text outcome = IsOverData (IsUpdateOutcome choice text) file outcome

-- what the bytes of such a file result in, whatever a store holds
abbrev pub IsExplanationOutcome : TextKind → List ℕ → Content → Outcome (List ℕ) → Type 0
IsExplanationOutcome k bytes c outcome = IsOfText (IsExplained k) bytes outcome

-- the same over the data
abbrev pub IsExplanationOfData : TextKind → List ℕ → List ℕ → Outcome (List ℕ) → Type 0
IsExplanationOfData k file text outcome = IsOverData (IsExplanationOutcome k text) file outcome

-- an answer, or the line of the fault
abbrev pub outcome_line : Outcome Answer → List ℕ
outcome_line (Ok answer) = answer_text answer
outcome_line (Err f) = line (fault_line f)

-- an explanation, or the line of the fault
abbrev pub explanation_line : Outcome (List ℕ) → List ℕ
explanation_line (Ok text) = text
explanation_line (Err f) = line (fault_line f)

-- memory ran out, and this is the line of that fault
abbrev pub IsDueOfMemory : List ℕ → ℕ → Type 0
IsDueOfMemory bytes status = IsRefusal fault.Memory bytes status

-- the line of a text that is no script
abbrev pub script_line : ℕ → List ℕ
script_line n = codes "script line " ++ decimal n

-- some events of the script, from the front, were carried out, and these bytes are what they write
abbrev pub IsBegunOfReplay : DefaultGraph → List ℕ → List ℕ → List ℕ → Type 0
IsBegunOfReplay choice file script bytes =
    (c : Content) × (events : List Event) × (new : State) × (text rest : List ℕ)
    × IsLoaded file (Ok c) × IsScript script events
    × StopsAt (Carries sparql) (service_over choice c) events new text rest × (bytes ≡ text ++ rest)
