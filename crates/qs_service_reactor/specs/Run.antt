-- What a reactor does, one act after another.
use Rattle.std.specs.Prelude.{◌≡◌, ◌≤◌, ◌==◌, ◌&&◌, ℕ, Bool, true, false, List, [], ◌∷◌, ◌++◌}
use Rattle.std.specs.Prelude.{Option, None, Some, Result, IsSome, IfSome, OnOk, option_map, filter}
use Rattle.std.specs.Prelude.{if◌then◌else◌, length}
use Rattle.std.specs.List.{flat_map}
use Rattle.qs_service_reactor.specs.Log.{Io, Got, Put, Fin, Logs}

-- a connection joins, a piece of bytes arrives on one, or one ends
pub data Event : Type 0 where
  Join : (id : ℕ) → Event
  Piece : (id : ℕ) → (bytes : List ℕ) → Event
  End : (id : ℕ) → Event

-- The endpoint makes a step, and takes the event up or not; bytes of a reply go out; bytes that
-- come after a request are dropped; or the peer is told that no more bytes come.
pub data Act : Type 0 where
  Did : (event : Event) → (done : Bool) → Act
  Wrote : (id : ℕ) → (bytes : List ℕ) → Act
  Dropped : (id : ℕ) → (bytes : List ℕ) → Act
  Finished : (id : ℕ) → Act

-- the bytes that went out to each joined connection since it joined, after this act; none where
-- none is joined
abbrev pub out_after : (ℕ → Option (List ℕ)) → Act → ℕ → Option (List ℕ)
out_after out (Did (Join id) done) k = if done && k == id then Some [] else out k
out_after out (Did (Piece id bs) done) k = out k
out_after out (Did (End id) done) k = if k == id then None else out k
out_after out (Wrote id bs) k = if k == id then option_map (λ sent. sent ++ bs) (out k) else out k
out_after out (Dropped id bs) k = out k
out_after out (Finished id) k = out k

-- what comes and goes at an act
abbrev pub ios_of : Act → List Io
ios_of (Did (Piece id bytes) done) = Got id bytes ∷ []
ios_of (Wrote id bytes) = Put id bytes ∷ []
ios_of (Dropped id bytes) = Got id bytes ∷ []
ios_of (Finished id) = Fin id ∷ []
ios_of (Did _ done) = []

-- whether a connection joins, be it that the endpoint takes it up or not
abbrev pub is_join : Act → Bool
is_join (Did (Join id) done) = true
is_join _ = false

module _ {A : Type 0} (steps : A → Event → Bool → A → Type 0)
    (reply_of : A → ℕ → Option (List ℕ)) where
  -- One act: the endpoint makes a step, or stays. With the bytes that go out, all that went out
  -- since the join are a front of the one reply that stands; the peer is told of the end once they
  -- are all of it; and bytes are dropped only once the reply stands.
  abbrev pub Next : A → (ℕ → Option (List ℕ)) → Act → A → Type 0
  Next old out (Did event done) new = steps old event done new
  Next old out (Wrote id bytes) new = (new ≡ old) × (sent rest : List ℕ) × (out id ≡ Some sent)
      × (reply_of old id ≡ Some (sent ++ bytes ++ rest))
  Next old out (Dropped id bytes) new = (new ≡ old) × IsSome (out id) × IsSome (reply_of old id)
  Next old out (Finished id) new = (new ≡ old) × IsSome (out id) × (reply_of old id ≡ out id)

  -- one act after another
  abbrev pub Run : A → (ℕ → Option (List ℕ)) → List Act → A → (ℕ → Option (List ℕ)) → Type 0
  Run old out [] new out' = (new ≡ old) × (out' ≡ out)
  Run old out (act ∷ acts) new out' =
      (mid : A) × Next old out act mid × Run mid (out_after out act) acts new out'

  -- Some acts lead from the old endpoint to the new one. Where a number is given, no more than so
  -- many connections join; and unless there was an error, so many joined. The log is what came and
  -- went at these acts, and nothing else. All that joined have ended, unless there was an error.
  pub record Serves {T E : Type 0} (connections : Option ℕ) (result : Result T E) (old new : A)
      (log log' : Option (List Io)) : Type 0 where
    pub acts : List Act
    pub out : ℕ → Option (List ℕ)
    pub run : Run old (λ _. None) acts new out
    pub few : IfSome connections (λ n. length (filter is_join acts) ≤ n)
    pub all : OnOk result (IfSome connections (λ n. length (filter is_join acts) ≡ n))
    pub logged : Logs log log' (flat_map ios_of acts)
    pub ended : OnOk result ((id : ℕ) → out id ≡ None)
