-- What a session has read, and how a piece more changes it.
use Rattle.std.specs.Prelude.{◌≡◌, ℕ, List, [], ◌∷◌, ◌++◌, ◌⊎◌}
use Rattle.qs_http.specs.declared.fixed_reply.Fixed.TheVariants.{Memory}
use Rattle.qs_http.specs.Outcome.{Outcome, More, Ready, Refused}
use Rattle.qs_http.specs.RequestOf.{IsRequestOf}

-- the joined bytes that result in nothing yet, or what they resulted in
pub data Seen : Type 0 where
  Reading : (bytes : List ℕ) → Seen
  Done : (outcome : Outcome) → Seen

abbrev pub seen_at : List ℕ → Outcome → Seen
seen_at bytes More = Reading bytes
seen_at bytes (Ready request) = Done (Ready request)
seen_at bytes (Refused fixed) = Done (Refused fixed)

-- what the bytes result in, or no memory was found for them
abbrev pub StandsAt : List ℕ → Seen → Type 0
StandsAt bytes seen =
    ((outcome : Outcome) × IsRequestOf bytes outcome × (seen ≡ seen_at bytes outcome))
    ⊎ (seen ≡ Done (Refused Memory))

-- a piece comes; once the bytes resulted in something, nothing changes it
abbrev pub Feeds : Seen → List ℕ → Seen → Type 0
Feeds (Reading bytes) piece new = StandsAt (bytes ++ piece) new
Feeds (Done outcome) piece new = new ≡ Done outcome

-- the pieces come, one after another
abbrev pub FeedsAll : Seen → List (List ℕ) → Seen → Type 0
FeedsAll old [] new = new ≡ old
FeedsAll old (piece ∷ pieces) new = (seen : Seen) × Feeds old piece seen × FeedsAll seen pieces new
