-- Connections as the endpoint of an event loop.
use Rattle.std.specs.Prelude.{◌≡◌, ℕ, Bool, List, Option, option_map}
use Rattle.std.specs.Option.{is_none}
use Rattle.qs_service_connections.specs.Meaning.{RequestMeaning}
use Rattle.qs_service_connections.specs.Message.{Message}
use Rattle.qs_service_connections.specs.State.{State, reply_at}
use Rattle.qs_service_connections.specs.Step.{Event, Join, Piece, End, Step}
use Rattle.qs_service_connections.specs.declared.fault.ServiceFault.{ServiceFault}
use Rattle.qs_service_reactor.specs.Run as loop

-- an event of the loop, as one of the connections
abbrev pub event_of : loop.Event → Event
event_of (loop.Join id) = Join id
event_of (loop.Piece id bytes) = Piece id bytes
event_of (loop.End id) = End id

-- one step of the connections, which takes the event up where nothing refuses it
abbrev pub Steps : {S : Type 0} → RequestMeaning S → State S → loop.Event → Bool → State S → Type 0
Steps carries old event done new =
    (outcome : Option ServiceFault) × Step carries old (event_of event) outcome new
    × (done ≡ is_none outcome)

-- the bytes of the reply that stands for that id
abbrev pub reply_bytes : {S : Type 0} → State S → ℕ → Option (List ℕ)
reply_bytes s id = option_map (λ (m : Message). m.bytes) (reply_at id s.joined)
