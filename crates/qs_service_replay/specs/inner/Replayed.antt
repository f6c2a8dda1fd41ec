-- Definitions over those of `Replayed`, for proofs and the layers between.
use Rattle.std.specs.Prelude.{◌≡◌, ◌<◌, ◌≤◌, ℕ, List, ◌++◌, length, take, Option}
use Rattle.std.specs.Io.KnownBytes.{Appends}
use Rattle.qs_terms.specs.Device.{one_more}
use Rattle.qs_service_connections.specs.Meaning.{RequestMeaning}
use Rattle.qs_service_connections.specs.State.{State}
use Rattle.qs_service_connections.specs.Step.{Event}
use Rattle.qs_service_replay.specs.Replay.{Replays}
use Rattle.qs_service_replay.specs.declared.run.ReplayEnd.{ReplayEnd}
use Rattle.qs_service_replay.specs.declared.run.ReplayEnd.TheVariants.{All, SinkFailed, OutOfMemory}
use Rattle.qs_service_replay.specs.Replayed.{StopsAt}

-- all events were carried out, and the sink took all that they write; or it failed at the line of
-- the last one that was carried out, and took all before that line and not all of it; or it was out
-- of memory for that line, and the sink took all before it
abbrev pub IsReplayed : {S : Type 0} → RequestMeaning S → State S → List Event → Option (List ℕ)
    → Option (List ℕ) → ℕ → ℕ → State S → ReplayEnd → ℕ → Type 0
IsReplayed carries old events taken taken2 faults faults2 new All written =
    (text : List ℕ) × Replays carries old 1 events new text × (written ≡ length text)
    × Appends taken taken2 text × (faults2 ≡ faults)
IsReplayed carries old events taken taken2 faults faults2 new SinkFailed written =
    (text line : List ℕ) × StopsAt carries old events new text line × (length text ≤ written)
    × (written < length (text ++ line))
    × Appends taken taken2 (take written (text ++ line)) × (faults2 ≡ one_more faults)
IsReplayed carries old events taken taken2 faults faults2 new OutOfMemory written =
    (text line : List ℕ) × StopsAt carries old events new text line × (written ≡ length text)
    × Appends taken taken2 text × (faults2 ≡ faults)
