-- What the functions of a reactor do.
use Rattle.std.specs.Prelude.{◌≡◌, ◌≢◌, ◌++◌, ℕ, Bool, true, false, List, [], length, slice_get}
use Rattle.std.specs.Prelude.{Option, None, Some, IsSome}
use Rattle.qs_service_reactor.specs.Log.{Io, Logs}
use Rattle.qs_service_reactor.specs.Run.{Event, Act, Run}
use Rattle.qs_service_reactor.specs.inner.Acts.{ios, joins}
use Rattle.qs_service_reactor.specs.inner.Keeps.{KeepsOthers}
use Rattle.qs_service_reactor.specs.declared.connection.Connection.{Connection}
use Rattle.qs_service_reactor.specs.declared.connection.Stage.{Stage}
use Rattle.qs_service_reactor.specs.declared.connection.Stage.TheVariants.{Free, Reading, Writing}
use Rattle.qs_service_reactor.specs.declared.connection.Stage.TheVariants.{Lingering}

-- the connection is joined and its reply stands, of which so many bytes went out
pub record IsSent (reply out : Option (List ℕ)) (n : ℕ) : Type 0 where
  pub sent : List ℕ
  pub rest : List ℕ
  pub joined : out ≡ Some sent
  pub stands : reply ≡ Some (sent ++ rest)
  pub count : length sent ≡ n

-- how far a connection has come agrees with its reply, and with the bytes that went out since it
-- joined
abbrev pub AgreesAt : Option (List ℕ) → Option (List ℕ) → Stage → Type 0
AgreesAt reply out Free = out ≡ None
AgreesAt reply out Reading = out ≡ Some []
AgreesAt reply out (Writing n) = IsSent reply out n
AgreesAt reply out Lingering = IsSome out × IsSome reply

-- that of a place: nobody is joined where there is no place
abbrev pub AgreesPlace : Option (List ℕ) → Option (List ℕ) → Option Connection → Type 0
AgreesPlace reply out None = out ≡ None
AgreesPlace reply out (Some c) = AgreesAt reply out c.stage

-- that of each place
abbrev pub Agrees : (ℕ → Option (List ℕ)) → (ℕ → Option (List ℕ)) → List Connection → Type 0
Agrees replies out places = (k : ℕ) → AgreesPlace (replies k) (out k) (slice_get places k)

abbrev pub is_free_stage : Stage → Bool
is_free_stage Free = true
is_free_stage Reading = false
is_free_stage (Writing n) = false
is_free_stage Lingering = false

-- whether there is no connection at this place
abbrev pub is_free : Connection → Bool
is_free c = is_free_stage c.stage

-- there is no connection at any place
pub record AllFree (places : List Connection) : Type 0 where
  pub free : (k : ℕ) → (c : Connection) → slice_get places k ≡ Some c → c.stage ≡ Free

module _ {A : Type 0} (steps : A → Event → Bool → A → Type 0)
    (reply_of : A → ℕ → Option (List ℕ)) where
  -- some acts lead there, in which n connections join; the log is what came and went at them
  pub record Goes (n : ℕ) (old new : A) (out out' : ℕ → Option (List ℕ))
      (log log' : Option (List Io)) : Type 0 where
    pub acts : List Act
    pub run : Run steps reply_of old out acts new out'
    pub count : joins acts ≡ n
    pub logged : Logs log log' (ios acts)

  -- a turn of one connection
  pub record Turns (place : ℕ) (stage stage' : Stage) (old new : A)
      (log log' : Option (List Io)) : Type 0 where
    pub goes : (out : ℕ → Option (List ℕ)) → AgreesAt (reply_of old place) (out place) stage
        → (out' : ℕ → Option (List ℕ)) × Goes 0 old new out out' log log'
        × AgreesAt (reply_of new place) (out' place) stage' × ((k : ℕ) → k ≢ place → out' k ≡ out k)
    pub keeps : KeepsOthers place (reply_of old) (reply_of new)

  -- what a table does, in which n connections join
  pub record Moves (n : ℕ) (places places' : List Connection) (old new : A)
      (log log' : Option (List Io)) : Type 0 where
    pub goes : (out : ℕ → Option (List ℕ)) → Agrees (reply_of old) out places
        → (out' : ℕ → Option (List ℕ)) × Goes n old new out out' log log'
        × Agrees (reply_of new) out' places'
