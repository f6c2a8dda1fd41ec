-- A loop that writes each element of a list.
use Rattle.std.proofs.Common.{◌≡◌, ℕ, zero, suc, ◌+◌, ◌<◌, List, [], ◌∷◌, ◌++◌, map, length, take, drop, get_or, slice_set, refl, ap, ◌∙◌, arith}

module _ {X : Type 0} (f : X → X) where
  at : (old : List X) (i : ℕ) (d : X) → i < length old → get_or (map f (take i old) ++ drop i old) i d ≡ get_or old i d
  at [] i d h = absurd (omega (arith, h))
  at (x ∷ old) zero d h = refl
  at (x ∷ old) (suc i) d h = at old i d (omega (arith, h))

  put : (old : List X) (i : ℕ) (y d : X) → i < length old → y ≡ f (get_or old i d) → slice_set (map f (take i old) ++ drop i old) i y ≡ map f (take (suc i) old) ++ drop (suc i) old
  put [] i y d h e = absurd (omega (arith, h))
  put (x ∷ old) zero y d h e = ap (λ z. z ∷ old) e
  put (x ∷ old) (suc i) y d h e = ap (λ l. f x ∷ l) (put old i y d (omega (arith, h)) e)

  -- one element more
  pub write_more : (old rows : List X) (i : ℕ) (x y : X) → i < length old → rows ≡ map f (take i old) ++ drop i old → y ≡ f (get_or rows i x)
      → slice_set rows i y ≡ map f (take (i + 1) old) ++ drop (i + 1) old
  write_more old rows i x y h e k =
      let more : suc i ≡ i + 1 = omega arith in
      ap (λ (l : List X). slice_set l i y) e
      ∙ (put old i y x h (k ∙ ap f (ap (λ (l : List X). get_or l i x) e ∙ at old i x h))
      ∙ ap (λ (n : ℕ). map f (take n old) ++ drop n old) more)
