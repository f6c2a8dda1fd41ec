-- What a sink took of a run of events, and how the run ended.
use Rattle.std.specs.Prelude.{◌≡◌, ◌+◌, ℕ, List, ◌∷◌, ◌++◌, length}
use Rattle.qs_service_connections.specs.Meaning.{RequestMeaning}
use Rattle.qs_service_connections.specs.State.{State}
use Rattle.qs_service_connections.specs.Step.{Event}
use Rattle.qs_service_replay.specs.Replay.{Tells, Replays}

-- some of the events, from the front, were carried out: `line` is what the last of them writes, and
-- `text` what those before it write
abbrev pub StopsAt : {S : Type 0} → RequestMeaning S → State S → List Event → State S → List ℕ
    → List ℕ → Type 0
StopsAt {S} carries old events new text line =
    (front others : List Event) × (event : Event) × (mid : State S)
    × (events ≡ front ++ event ∷ others) × Replays carries old 1 front mid text
    × Tells carries mid (length front + 1) event new line
