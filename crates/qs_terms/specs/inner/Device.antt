-- Definitions over those of `Device`, for proofs and the layers between.
use Rattle.std.specs.Prelude.{◌≡◌, ℕ, zero, suc, List, Result, MatchResult, length}
use Rattle.qs_terms.specs.Device.{one_more}

-- the count after a write that was lent `given` bytes and took `taken`: one that took none of some
-- has failed
abbrev pub count_after : ℕ → ℕ → ℕ → ℕ
count_after zero taken n = n
count_after (suc given) zero n = one_more n
count_after (suc given) (suc taken) n = n

-- how a write of these bytes changes the count
abbrev pub CountsWrite : {E : Type 0} → ℕ → ℕ → Result ℕ E → List ℕ → Type 0
CountsWrite old new r bytes =
    MatchResult r (λ n. new ≡ count_after (length bytes) n old) (λ _. new ≡ one_more old)

-- how a read changes the count: no bytes are the end of the input, and no fault
abbrev pub CountsRead : {E : Type 0} → ℕ → ℕ → Result ℕ E → Type 0
CountsRead old new r = MatchResult r (λ _. new ≡ old) (λ _. new ≡ one_more old)
