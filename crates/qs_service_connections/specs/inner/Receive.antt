-- How far a connection has come, by what is kept of it.
use Rattle.std.specs.Prelude.{◌≡◌, ◌≤◌, ◌-◌, ℕ, List, [], ◌++◌, length, take, drop, Option, None}
use Rattle.std.specs.Prelude.{Some}
use Rattle.qs_http.specs.inner.Feeding.{Seen, Reading, Done}
use Rattle.qs_http.specs.Outcome.{More}
use Rattle.qs_http.specs.RequestOf.{IsRequestOf}
use Rattle.qs_service_connections.specs.Meaning.{RequestMeaning}
use Rattle.qs_service_connections.specs.Message.{Message}
use Rattle.qs_service_connections.specs.State as state
use Rattle.qs_service_connections.specs.State.{Exchange}
use Rattle.qs_service_connections.specs.Step.{Receives}
use Rattle.qs_service_connections.specs.declared.receive.ConnectionState.{ConnectionState}
use Rattle.qs_service_connections.specs.declared.receive.ConnectionState.TheVariants as connection

abbrev pub exchange_seen : Seen → Exchange
exchange_seen (Reading bytes) = state.Reading bytes
exchange_seen (Done outcome) = state.Reading []

abbrev pub exchange_in : ConnectionState → Exchange
exchange_in (connection.Reading session) = exchange_seen session
exchange_in (connection.Answered reply taken) = state.Answered reply taken

-- a session with an outcome is kept no longer; no more is taken than there is
abbrev pub IsReading : Seen → Type 0
IsReading (Reading bytes) = Unit {0}
IsReading (Done outcome) = ⊥

abbrev pub IsConnectionState : ConnectionState → Type 0
IsConnectionState (connection.Reading session) = IsReading session
IsConnectionState (connection.Answered reply taken) = taken ≤ length reply.bytes

-- a piece is received while the request is read: it isn't whole yet, or its reply is made
abbrev pub ReceivesOn : {S : Type 0} → RequestMeaning S → S → List ℕ → List ℕ → S → Seen
    → Option Message → Type 0
ReceivesOn carries old read piece new seen None =
    (new ≡ old) × (seen ≡ Reading (read ++ piece)) × IsRequestOf (read ++ piece) More
ReceivesOn carries old read piece new seen (Some reply) =
    Receives carries old (state.Reading read) piece new (state.Answered reply 0)

-- the bytes that a session has read
abbrev pub bytes_read : Seen → List ℕ
bytes_read (Reading bytes) = bytes
bytes_read (Done outcome) = []

-- the bytes of the reply, none while there is no reply
abbrev pub bytes_in : Exchange → List ℕ
bytes_in (state.Reading bytes) = []
bytes_in (state.Answered reply taken) = reply.bytes

-- these bytes stand there in the reply
pub record StandAt (exchange : Exchange) (from to : ℕ) (bytes : List ℕ) : Type 0 where
  pub ascends : from ≤ to
  pub within : to ≤ length (bytes_in exchange)
  pub is : bytes ≡ take (to - from) (drop from (bytes_in exchange))
