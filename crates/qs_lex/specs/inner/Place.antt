-- Where tokens stand in a text.
use Rattle.std.specs.Prelude.{◌≡◌, ◌≤◌, ◌<◌, ℕ, ◌+◌, List, length, take, drop}
use Rattle.qs_lex.specs.declared.token.Token.{Token}

-- the token is the slice of the text at its place
abbrev pub IsSliceOf : List ℕ → Token → Type 0
IsSliceOf text t = t.text.now ≡ take (length t.text.now) (drop t.place text)

-- the second token has the greater place, and begins no sooner than the first ends
abbrev pub StandsBefore : Token → Token → Type 0
StandsBefore s t = (s.place < t.place) × (s.place + length s.text.now ≤ t.place)
