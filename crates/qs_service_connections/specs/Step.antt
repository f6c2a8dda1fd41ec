-- A run of connection events: each event is one step (SPARQL 1.1 Protocol, 2).
use Rattle.std.specs.Prelude.{◌≡◌, ◌<◌, ◌⊎◌, ℕ, List, [], ◌∷◌, ◌++◌, length, Option, None, Some, Ok}
use Rattle.std.specs.Prelude.{Err, Result, IsSome}
use Rattle.std.specs.Borrow.{Bor}
use Rattle.qs_http.specs.declared.fixed_reply.Fixed.TheVariants.{Memory}
use Rattle.qs_http.specs.Outcome.{Outcome, More, Ready, Refused}
use Rattle.qs_http.specs.RequestOf.{IsRequestOf}
use Rattle.qs_service_connections.specs.Meaning.{RequestMeaning}
use Rattle.qs_service_connections.specs.Message.{Message, fixed_message}
use Rattle.qs_service_connections.specs.State.{Exchange, Reading, Answered, State}
use Rattle.qs_service_connections.specs.State.{exchange_of, with_exchange, without_id, next_bytes}
use Rattle.qs_service_connections.specs.State.{with_taken}
use Rattle.qs_service_connections.specs.declared.fault.ServiceFault.{ServiceFault}
use Rattle.qs_service_connections.specs.declared.fault.ServiceFault.TheVariants.{Busy, KnownId}
use Rattle.qs_service_connections.specs.declared.fault.ServiceFault.TheVariants.{UnknownId}

-- a connection joins, a piece of bytes arrives on one, or one ends
pub data Event : Type 0 where
  Join : (id : ℕ) → Event
  Piece : (id : ℕ) → (bytes : List ℕ) → Event
  End : (id : ℕ) → Event

module _ {S : Type 0} (carries : RequestMeaning S) where
  -- what a connection's bytes result in at this step: a request alone touches what is stored; of a
  -- reply that is made nothing was taken
  abbrev pub ResultsIn : S → List ℕ → Outcome → S → Exchange → Type 0
  ResultsIn old bytes More new exchange = (new ≡ old) × (exchange ≡ Reading bytes)
  ResultsIn old bytes (Refused fixed) new exchange =
      (new ≡ old) × (exchange ≡ Answered (fixed_message fixed) 0)
  ResultsIn old bytes (Ready request) new exchange =
      (reply : Message) × carries old request new reply × (exchange ≡ Answered reply 0)

  -- a connection and what is stored, before and after a piece: what its joined bytes result in, or
  -- out of memory, where what is stored stays; one that was answered stays as it is
  abbrev pub Receives : S → Exchange → List ℕ → S → Exchange → Type 0
  Receives old (Answered r taken) p new exchange = (new ≡ old) × (exchange ≡ Answered r taken)
  Receives old (Reading bytes) p new exchange =
      ((outcome : Outcome) × IsRequestOf (bytes ++ p) outcome
      × ResultsIn old (bytes ++ p) outcome new exchange)
      ⊎ ((new ≡ old) × (exchange ≡ Answered (fixed_message Memory) 0))

  -- from old, the event may have that outcome and lead to new; at most 64 connections are joined at
  -- once. A join is refused as KnownId where the id is joined, and else as Busy; a piece or an end
  -- as UnknownId where the id isn't joined. What is refused changes nothing
  abbrev pub Step : State S → Event → Option ServiceFault → State S → Type 0
  Step old (Join id) None new =
      (exchange_of id old.joined ≡ None) × (length old.joined < 64)
      × (new ≡ record old { joined = old.joined ++ record { id = id; exchange = Reading [] } ∷ [] })
  Step old (Join id) (Some Busy) new =
      (exchange_of id old.joined ≡ None) × (length old.joined ≡ 64) × (new ≡ old)
  Step old (Join id) (Some KnownId) new = IsSome (exchange_of id old.joined) × (new ≡ old)
  Step old (Piece id p) None new =
      (exchange received : Exchange) × (stored : S) × (exchange_of id old.joined ≡ Some exchange)
      × Receives old.stored exchange p stored received
      × (new ≡ record { stored = stored; joined = with_exchange id (λ _. received) old.joined })
  Step old (Piece id p) (Some UnknownId) new = (exchange_of id old.joined ≡ None) × (new ≡ old)
  Step old (End id) None new = IsSome (exchange_of id old.joined)
      × (new ≡ record old { joined = without_id id old.joined })
  Step old (End id) (Some UnknownId) new = (exchange_of id old.joined ≡ None) × (new ≡ old)
  Step old event (Some fault) new = ⊥

-- the bytes that are taken of the reply of that id
abbrev pub TakesBytes : {S : Type 0} → State S → ℕ → ℕ → Result (Bor (List ℕ)) ServiceFault → Type 0
TakesBytes old id n (Ok bytes) = (exchange : Exchange) × (exchange_of id old.joined ≡ Some exchange)
    × (bytes.now ≡ next_bytes n exchange)
TakesBytes old id n (Err UnknownId) = exchange_of id old.joined ≡ None
TakesBytes old id n (Err _) = ⊥

-- the state once they are taken: only their count changes
abbrev pub TakesTo : {S : Type 0} → State S → ℕ → ℕ → State S → Type 0
TakesTo old id n now =
    now ≡ record old { joined = with_exchange id (with_taken n) old.joined }
