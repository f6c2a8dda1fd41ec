-- Definitions over those of `Bag`, for proofs and the layers between.
use Rattle.std.specs.Prelude.{ℕ, ◌+◌, Bool, List, [], ◌∷◌, cond}

-- how often x stands in the list, by a test of sameness
abbrev pub times : {X : Type 0} → (X → X → Bool) → X → List X → ℕ
times same x [] = 0
times same x (y ∷ ys) = cond (same x y) 1 0 + times same x ys
