-- What holds of the definitions themselves.
use Rattle.std.specs.Prelude.{◌≡◌, ◌≢◌, ℕ, ◌<◌, List, [], ◌∷◌, ◌++◌, length}
use Rattle.qs_http.specs.Outcome.{Outcome, More}
use Rattle.qs_http.specs.RequestOf.{IsRequestOf}
use Rattle.qs_http.specs.inner.Feeding.{Seen, Reading, StandsAt, FeedsAll}

-- bytes result in one thing at most
abbrev pub RequestsAreUnique : Type 0
RequestsAreUnique =
    (bytes : List ℕ) (a b : Outcome) → IsRequestOf bytes a → IsRequestOf bytes b → a ≡ b

-- once they result in something, further bytes don't change it
abbrev pub RequestsAreKept : Type 0
RequestsAreKept = (bytes more : List ℕ) (outcome : Outcome) → IsRequestOf bytes outcome
    → outcome ≢ More → IsRequestOf (bytes ++ more) outcome

-- bytes of which more are wanted are fewer than the longest head and the longest body have together
abbrev pub UnfinishedRequestsAreShort : Type 0
UnfinishedRequestsAreShort = (bytes : List ℕ) → IsRequestOf bytes More → length bytes < 4210688

-- the pieces, joined
abbrev pub joined : List (List ℕ) → List ℕ
joined [] = []
joined (piece ∷ pieces) = piece ++ joined pieces

-- however the bytes are cut, a session results in what they result in joined
abbrev pub CutsDoNotMatter : Type 0
CutsDoNotMatter = (pieces : List (List ℕ)) (seen : Seen) → FeedsAll (Reading []) pieces seen
    → StandsAt (joined pieces) seen
