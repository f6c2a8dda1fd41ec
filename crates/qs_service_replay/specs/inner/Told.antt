-- What a line tells, in its parts, and what is known before an event is told.
use Rattle.std.specs.Prelude.{◌≡◌, ℕ, List, ◌∷◌, ◌++◌, Result, Ok, Err, Option, None, Some, Bool}
use Rattle.std.specs.Prelude.{false}
use Rattle.std.specs.List.{AllZip}
use Rattle.std.specs.Option.{is_some}
use Rattle.hex.specs.Hex.{decode_of}
use Rattle.qs_service_replay.specs.Script.{IsId, IsLine, AreLines}
use Rattle.qs_service_replay.specs.inner.Script.{TellsEvent}
use Rattle.qs_service_connections.specs.State.{State, reply_at}
use Rattle.qs_service_connections.specs.Step.{Event, Join, Piece, End}
use Rattle.qs_service_replay.specs.inner.ScriptEvents.{event_of}
use Rattle.qs_service_replay.specs.declared.script_event.ScriptEvent.{ScriptEvent}
use Rattle.qs_service_replay.specs.declared.script.ScriptFault.{ScriptFault}
use Rattle.qs_service_replay.specs.declared.script.ScriptFault.TheVariants.{Line, Memory}

-- what stands after the word of a piece
abbrev pub IsPiece : List ℕ → ℕ → List ℕ → Type 0
IsPiece rest id bytes = (digits hex : List ℕ) × IsId digits id × (decode_of hex ≡ Ok bytes)
    × (rest ≡ digits ++ 32 ∷ hex)

-- it is the event that the line tells, or the line tells none
abbrev pub IsToldBy : List ℕ → Option ScriptEvent → Type 0
IsToldBy line None = ¬ TellsEvent line
IsToldBy line (Some h) = IsLine line (event_of h)

-- these events are told by the lines before what is left of the text
abbrev pub IsReadTo : List ℕ → List Event → List ℕ → Type 0
IsReadTo text events rest = (front : List (List ℕ)) × AllZip IsLine front events
    × ((lines : List (List ℕ)) → AreLines rest lines → AreLines text (front ++ lines))

-- the event that the line of this number tells, or its fault
abbrev pub IsToldAt : List ℕ → ℕ → Result ScriptEvent ScriptFault → Type 0
IsToldAt line number (Ok h) = IsLine line (event_of h)
IsToldAt line number (Err (Line n)) = (n ≡ number) × (¬ TellsEvent line)
IsToldAt line number (Err Memory) = Unit {0}

-- whether the connection of a piece has its reply already
abbrev pub HadReply : {S : Type 0} → State S → Event → Bool → Type 0
HadReply old (Join id) had = had ≡ false
HadReply old (Piece id piece) had = is_some (reply_at id old.joined) ≡ had
HadReply old (End id) had = had ≡ false
