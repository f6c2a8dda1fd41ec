-- A whole order after the least elements.
use Rattle.std.proofs.Common.{◌≡◌, refl, arith}
use Rattle.std.proofs.lemmas.List.Elements.{All-nil, All-cons, All-tail, All-append}
use Rattle.std.proofs.lemmas.List.Sorted.{sorted_far, IsPermutation-refl, IsPermutation-trans, IsPermutation-cons, IsPermutation-middle, IsPermutation-append_right, All-permutation}
use Rattle.std.specs.Cmp.{IsStrictWeakOrder}
use Rattle.std.specs.List.{All}
use Rattle.std.specs.List.Sorted.{IsPermutation, IsSortedBy}
use Rattle.std.specs.Prelude.{ℕ, zero, suc, ◌+◌, ◌<◌, Bool, true, false, List, [], ◌∷◌, ◌++◌, length, slice_index_or}

module _ {X : Type 0} (lt : X → X → Bool) (o : IsStrictWeakOrder lt) where
  abbrev NoneLower : List X → X → Type 0
  NoneLower ys x = All (λ y. lt y x ≡ false) ys

  -- none is lower than one before it
  abbrev Up : List X → Type 0
  Up [] = Unit {0}
  Up (x ∷ xs) = NoneLower xs x × Up xs

  abbrev Sorted : List X → Type 0
  Sorted xs = (zs : List X) × IsPermutation xs zs × Up zs

  inserted_at : (x y : X) (ys : List X) → Up (y ∷ ys) → Sorted (x ∷ ys) → (b : Bool) → lt y x ≡ b → Sorted (x ∷ y ∷ ys)
  inserted_at x y ys up rest true e = (
    y ∷ rest.0,
    IsPermutation-trans _ _ _ (IsPermutation-middle (x ∷ []) y ys) (IsPermutation-cons y (x ∷ ys) rest.0 rest.1),
    (All-permutation (λ z. lt z y ≡ false) (x ∷ ys) rest.0 rest.1 (All-cons (λ z. lt z y ≡ false) x ys (o.one_way y x e) up.0), rest.2),
  )
  inserted_at x y ys up rest false e = (
    x ∷ y ∷ ys,
    IsPermutation-refl (x ∷ y ∷ ys),
    (All-cons (λ z. lt z x ≡ false) y ys e (λ i d p. o.chain (slice_index_or ys i d) y x (up.0 i d p) e), up),
  )

  inserted : (x : X) (ys : List X) → Up ys → Sorted (x ∷ ys)
  inserted x [] up = (x ∷ [], IsPermutation-refl (x ∷ []), (All-nil (λ y. lt y x ≡ false), tt))
  inserted x (y ∷ ys) up = inserted_at x y ys up (inserted x ys up.1) (lt y x) refl

  sorted : (xs : List X) → Sorted xs
  sorted [] = ([], IsPermutation-refl [], tt)
  sorted (x ∷ xs) =
      let rest = sorted xs in
      let all = inserted x rest.0 rest.2 in
      (all.0, IsPermutation-trans _ _ _ (IsPermutation-cons x xs rest.0 rest.1) all.1, all.2)

  abbrev Far : List X → Type 0
  Far xs = (i j : ℕ) (d : X) → i < j → j < length xs → lt (slice_index_or xs j d) (slice_index_or xs i d) ≡ false

  up_from_far : (xs : List X) → Far xs → Up xs
  up_from_far [] h = tt
  up_from_far (x ∷ xs) h = (λ i d p. h 0 (suc i) d (omega arith) (omega arith), up_from_far xs (λ i j d p q. h (suc i) (suc j) d (omega arith) (omega arith)))

  far_from_up : (xs : List X) → Up xs → Far xs
  far_from_up [] up i j d p q = absurd (omega arith)
  far_from_up (x ∷ xs) up i zero d p q = absurd (omega arith)
  far_from_up (x ∷ xs) up zero (suc j) d p q = up.0 j d (omega arith)
  far_from_up (x ∷ xs) up (suc i) (suc j) d p q = far_from_up xs up.1 i j d (omega arith) (omega arith)

  joined : (front back : List X) → Up front → Up back → All (NoneLower back) front → Up (front ++ back)
  joined [] back up rest h = rest
  joined (x ∷ xs) back up rest h = (All-append (λ y. lt y x ≡ false) xs back up.0 (h 0 x (omega arith)), joined xs back up.1 rest (All-tail (NoneLower back) x xs h))

  -- some order has the least elements, in order, at its front
  pub completed : (front back : List X) → IsSortedBy lt front → All (λ a. All (λ b. lt b a ≡ false) back) front → (rest : List X) × IsPermutation (front ++ back) (front ++ rest) × IsSortedBy lt (front ++ rest)
  completed front back up h =
      let rest = sorted back in
      let least : All (NoneLower rest.0) front = λ i d p. All-permutation (λ b. lt b (slice_index_or front i d) ≡ false) back rest.0 rest.1 (h i d p) in
      let all : Up (front ++ rest.0) = joined front rest.0 (up_from_far front (λ i j d p q. sorted_far lt o front up i j d (omega arith) q)) rest.2 least in
      (rest.0, IsPermutation-append_right front back rest.0 rest.1, λ k d p q. far_from_up (front ++ rest.0) all k (k + 1) d (omega arith) q)
