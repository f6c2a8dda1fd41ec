-- Of two numbers, either is the smaller.
use Rattle.std.proofs.Common.{ℕ, ◌-◌, ◌≤◌, ◌⊎◌, inl, inr, arith}
use Rattle.std.proofs.Math.Nat.{eq-zero-or-pos}

pub either : (a b : ℕ) → (a ≤ b) ⊎ (b ≤ a)
either a b = elim (eq-zero-or-pos (a - b)) as (λ _. (a ≤ b) ⊎ (b ≤ a)) [ inl e ↦ inl (omega arith) | inr l ↦ inr (omega arith) ]
