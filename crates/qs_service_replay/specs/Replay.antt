-- What a run of connection events writes: a line for each reply, when it is made, and one for each
-- event that is refused.
use Rattle.std.specs.Prelude.{◌≡◌, ◌+◌, ℕ, List, [], ◌∷◌, ◌++◌, codes, decimal, Option, None, Some}
use Rattle.hex.specs.Hex.{encode_lower}
use Rattle.qs_service_connections.specs.Meaning.{RequestMeaning}
use Rattle.qs_service_connections.specs.Message.{Message}
use Rattle.qs_service_connections.specs.State.{State, reply_at}
use Rattle.qs_service_connections.specs.Step.{Event, Piece, Step}
use Rattle.qs_service_connections.specs.declared.fault.ServiceFault.{ServiceFault}
use Rattle.qs_service_connections.specs.declared.fault.ServiceFault.TheVariants.{Busy, KnownId}
use Rattle.qs_service_connections.specs.declared.fault.ServiceFault.TheVariants.{UnknownId}

abbrev pub number_of : ServiceFault → ℕ
number_of Busy = 1
number_of KnownId = 2
number_of UnknownId = 3

-- the line of a reply: its bytes in hex, in lower case
abbrev pub reply_line : ℕ → Message → List ℕ
reply_line id r = codes "reply " ++ (decimal id ++ (codes " " ++ (encode_lower r.bytes ++ 10 ∷ [])))

-- the line of the event on line n of a script, refused
abbrev pub refused_line : ℕ → ServiceFault → List ℕ
refused_line n fault =
    codes "event " ++ (decimal n ++ (codes " refused " ++ (decimal (number_of fault) ++ 10 ∷ [])))

-- the line of a reply that stands now and stood not before
abbrev pub made_line : ℕ → Option Message → Option Message → List ℕ
made_line id None (Some reply) = reply_line id reply
made_line id _ _ = []

-- what is written of the event on line n, by the states before and after it
abbrev pub told : {S : Type 0} → ℕ → State S → Event → Option ServiceFault → State S → List ℕ
told n old event (Some fault) new = refused_line n fault
told n old (Piece id p) None new = made_line id (reply_at id old.joined) (reply_at id new.joined)
told n old _ None new = []

-- one step, and what is written of it
abbrev pub Tells : {S : Type 0} → RequestMeaning S → State S → ℕ → Event → State S → List ℕ → Type 0
Tells carries old n event new text =
    (outcome : Option ServiceFault) × Step carries old event outcome new
    × (text ≡ told n old event outcome new)

-- one step after another, and what is written of them, the first event on line n
abbrev pub Replays : {S : Type 0} → RequestMeaning S → State S → ℕ → List Event → State S → List ℕ
    → Type 0
Replays carries old n [] new text = (new ≡ old) × (text ≡ [])
Replays {S} carries old n (event ∷ events) new text =
    (mid : State S) × (first rest : List ℕ) × Tells carries old n event mid first
    × Replays carries mid (n + 1) events new rest × (text ≡ first ++ rest)
