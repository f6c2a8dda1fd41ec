-- Definitions over those of `Number`, for proofs and the layers between.
use Rattle.std.specs.Prelude.{ℕ, ◌+◌, ◌-◌, ◌*◌, List, [], ◌∷◌, ℤ, pos, neg_ℤ}

-- decimal digits after digits of this value: the value of them all
abbrev pub value_behind : ℕ → List ℕ → ℕ
value_behind value [] = value
value_behind value (c ∷ cs) = value_behind (value * 10 + (c - 48)) cs

abbrev pub minus : ℕ → ℤ
minus n = neg_ℤ (pos n)
