-- Flags, one more and by their numbers.
use Rattle.std.proofs.Common.{◌≡◌, ℕ, zero, suc, ◌+◌, ◌≤◌, ◌<◌, Bool, [], ◌∷◌, ◌++◌, refl, ap, ◌∙◌, arith, add-one}
use Rattle.qs_algebra.specs.inner.Flags.{flags_from}
use Rattle.qs_algebra.specs.inner.Flags.{flag_at}

at_last : (f : ℕ → Bool) (v w n : ℕ) → w ≡ v + n → flags_from f v (suc n) ≡ flags_from f v n ++ f w ∷ []
at_last f v w zero e = ap (λ x. f x ∷ []) (omega (arith, e))
at_last f v w (suc n) e = ap (λ l. f v ∷ l) (at_last f (v + 1) w n (omega (arith, e)))

-- one number more
pub flags_more : (f : ℕ → Bool) (n : ℕ) → flags_from f 0 (n + 1) ≡ flags_from f 0 n ++ f n ∷ []
flags_more f n = rw add-one (at_last f 0 n n (omega arith))

-- the same answers give the same flags
pub same_flags : (f g : ℕ → Bool) (v n : ℕ) → ((w : ℕ) → v ≤ w → w < v + n → f w ≡ g w) → flags_from f v n ≡ flags_from g v n
same_flags f g v zero h = refl
same_flags f g v (suc n) h =
    ap (λ b. b ∷ flags_from f (v + 1) n) (h v (omega arith) (omega arith))
    ∙ ap (λ l. g v ∷ l) (same_flags f g (v + 1) n (λ w low high. h w (omega (arith, low)) (omega (arith, high))))

flag_from : (f : ℕ → Bool) (v n k : ℕ) → k < n → flag_at (flags_from f v n) k ≡ f (v + k)
flag_from f v zero k h = absurd (omega (arith, h))
flag_from f v (suc n) zero h = ap f (omega arith)
flag_from f v (suc n) (suc k) h = flag_from f (v + 1) n k (omega (arith, h)) ∙ ap f (omega arith)

-- the flag of a number is the answer at it
pub flag_is : (f : ℕ → Bool) (n k : ℕ) → k < n → flag_at (flags_from f 0 n) k ≡ f k
flag_is f n k h = flag_from f 0 n k h ∙ ap f (omega arith)
