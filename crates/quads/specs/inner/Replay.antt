-- The steps of a replay.
use Rattle.std.specs.Prelude.{◌≡◌, ◌⊎◌, ◌++◌, ℕ, List, Option, Result}
use Rattle.qs_service.specs.Carried.{Carries}
use Rattle.qs_service.specs.Language.{sparql}
use Rattle.qs_service.specs.State.{State}
use Rattle.qs_service_connections.specs.Step.{Event}
use Rattle.qs_service_replay.specs.Replayed.{StopsAt}
use Rattle.qs_service_replay.specs.Script.{IsScript}
use Rattle.qs_store.specs.declared.default_graph.DefaultGraph.{DefaultGraph}
use Rattle.quads.specs.Due.{IsDueOfEvents, IsDueOfScript, IsDueOfData, IsDueOfReplay}
use Rattle.quads.specs.inner.Outcomes.{IsDueOfMemory}
use Rattle.quads.specs.inner.Outcomes.{IsBegunOfReplay}
use Rattle.quads.specs.inner.Run.{Runs}
use Rattle.quads.specs.inner.Service.{BecomesService}
use Rattle.quads.specs.declared.job.Ran.{Ran}
use Rattle.quads.specs.declared.refusal.Refusal.{Refusal}

abbrev pub IsBegunOfEvents : State → List Event → List ℕ → Type 0
IsBegunOfEvents old events bytes =
    ((status : ℕ) × IsDueOfEvents old events bytes status)
    ⊎ ((new : State) × (text rest : List ℕ) × StopsAt (Carries sparql) old events new text rest
    × (bytes ≡ text ++ rest))

abbrev pub IsScriptDue : State → List ℕ → List ℕ → ℕ → Type 0
IsScriptDue old script bytes status =
    IsDueOfScript old script bytes status ⊎ IsDueOfMemory bytes status

abbrev pub IsScriptBegun : State → List ℕ → List ℕ → Type 0
IsScriptBegun old script bytes =
    ((status : ℕ) × IsScriptDue old script bytes status)
    ⊎ ((events : List Event) × (new : State) × (text rest : List ℕ) × IsScript script events
    × StopsAt (Carries sparql) old events new text rest × (bytes ≡ text ++ rest))

abbrev pub IsReplayDue : DefaultGraph → List ℕ → List ℕ → List ℕ → ℕ → Type 0
IsReplayDue choice file script bytes status = IsDueOfReplay choice file script bytes status
    ⊎ (IsDueOfMemory bytes status ⊎ IsDueOfData file bytes status)

abbrev pub IsReplayBegun : DefaultGraph → List ℕ → List ℕ → List ℕ → Type 0
IsReplayBegun choice file script bytes =
    ((status : ℕ) × IsReplayDue choice file script bytes status)
    ⊎ IsBegunOfReplay choice file script bytes

-- the run of a script over any data that became this service or this refusal
abbrev pub RunsReplay : Result State Refusal → List ℕ → Option (List ℕ) → Option (List ℕ) → ℕ → ℕ
    → Ran → Type 0
RunsReplay loaded script taken taken2 faults faults2 ran =
    (choice : DefaultGraph) (file : List ℕ) → BecomesService choice file loaded
    → Runs (IsReplayDue choice file script) (IsReplayBegun choice file script) taken taken2 faults
    faults2 ran
