-- Decimal numbers that stop at the greatest number.
use Rattle.std.proofs.Common.{◌≡◌, ℕ, ◌+◌, ◌-◌, ◌*◌, ◌^◌, ◌<◌, ◌≤◌, ◌⊎◌, inl, inr, min, List, [], ◌∷◌, length, drop, slice_index, ◌∙◌, sym, ap, arith, add-one}
use Rattle.std.proofs.Math.Nat.{min-eq_left, min-eq_right}
use Rattle.std.proofs.lemmas.List.{drop_all}
use Rattle.std.proofs.Math.Seq.{drop-cons}
use Rattle.qs_syntax_resolve.proofs.Either.{either}
use Rattle.qs_syntax_resolve.specs.inner.Names.{decimal}

grows : (value : ℕ) (cs : List ℕ) → value ≤ decimal value cs
grows value [] = omega arith
grows value (c ∷ cs) = let h = grows (value * 10 + (c - 48)) cs in omega arith

-- a number that is as great as the bound doesn't matter any more
beyond : (bound value : ℕ) (cs : List ℕ) → bound ≤ value → min (decimal value cs) bound ≡ bound
beyond bound value cs h = let g = grows value cs in min-eq_right (omega arith)

capped : (bound value : ℕ) (cs : List ℕ) → (value ≤ bound) ⊎ (bound ≤ value) → min (decimal (min value bound) cs) bound ≡ min (decimal value cs) bound
capped bound value cs (inl h) = rw (min-eq_left h)
capped bound value cs (inr h) = rw (min-eq_right h) (beyond bound bound cs (omega arith) ∙ sym (beyond bound value cs h))

inner : (bound a d : ℕ) → (a ≤ bound) ⊎ (bound ≤ a) → min (min a bound + d) bound ≡ min (a + d) bound
inner bound a d (inl h) = rw (min-eq_left h)
inner bound a d (inr h) = rw (min-eq_right h, min-eq_right {n = bound} {m = bound + d} (omega arith), min-eq_right {n = bound} {m = a + d} (omega arith))

drop_step : (bytes : List ℕ) (i : ℕ) → i < length bytes → drop i bytes ≡ slice_index bytes i ∷ drop (i + 1) bytes
drop_step bytes i l = rw (add-one, drop-cons bytes i 0)

pub step : (digits : List ℕ) (i value next : ℕ) → i < length digits → next ≡ min (min (value * 10) (2 ^ 64 - 1) + (slice_index digits i - 48)) (2 ^ 64 - 1)
    → min (decimal next (drop (i + 1) digits)) (2 ^ 64 - 1) ≡ min (decimal value (drop i digits)) (2 ^ 64 - 1)
step digits i value next l e =
    rw (e, drop_step digits i l) (
    ap (λ n. min (decimal n (drop (i + 1) digits)) (2 ^ 64 - 1)) (inner (2 ^ 64 - 1) (value * 10) (slice_index digits i - 48) (either (value * 10) (2 ^ 64 - 1)))
    ∙ capped (2 ^ 64 - 1) (value * 10 + (slice_index digits i - 48)) (drop (i + 1) digits) (either (value * 10 + (slice_index digits i - 48)) (2 ^ 64 - 1)))

pub last : (digits : List ℕ) (i value : ℕ) → length digits ≤ i → value < 2 ^ 64 → min (decimal value (drop i digits)) (2 ^ 64 - 1) ≡ value
last digits i value l h = rw (drop_all i digits l) (min-eq_left (omega arith))
