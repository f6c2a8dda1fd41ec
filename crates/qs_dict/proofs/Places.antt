-- The places of distinct elements.
use Rattle.std.proofs.Common.{◌≡◌, ℕ, zero, suc, ◌<◌, Bool, true, false, List, [], ◌∷◌, ◌++◌, length, get_or, take, Some, slice_get, refl, sym, ap, subst, ◌∙◌, arith, lt-ltb}
use Rattle.std.specs.Bool.{Decides}
use Rattle.std.specs.List.{IsDistinct, AllByRecursion, list_any, position}
use Rattle.std.proofs.lemmas.List.Folds.{list_any_at}
use Rattle.std.proofs.lemmas.List.Quantifiers.{position-Some}
use Rattle.std.proofs.lemmas.List.Sums.{position_or_len_is}
use Rattle.std.proofs.lemmas.Map.Keys.{IsDistinct-head, IsDistinct-tail}
use Rattle.std.proofs.lemmas.Option.{same_Some, none-some, slice_get_within, slice_get-get_or, get_or_from_slice_get}
use Rattle.qs_terms.specs.Bag.{Distinct}
use Rattle.qs_terms.proofs.FirstOnes.{or_left_false, or_right_false}

module _ {X : Type 0} where
  -- a list that goes on keeps its front
  pub slice_get-front : (xs ys : List X) (i : ℕ) → i < length xs → slice_get (xs ++ ys) i ≡ slice_get xs i
  slice_get-front [] ys i h = absurd (omega arith)
  slice_get-front (x ∷ xs) ys zero h = refl
  slice_get-front (x ∷ xs) ys (suc i) h = slice_get-front xs ys i (omega arith)

  -- and so does its front by itself
  pub slice_get-take : (n : ℕ) (xs : List X) (i : ℕ) → i < n → slice_get (take n xs) i ≡ slice_get xs i
  slice_get-take zero xs i h = absurd (omega arith)
  slice_get-take (suc n) [] i h = refl
  slice_get-take (suc n) (x ∷ xs) zero h = refl
  slice_get-take (suc n) (x ∷ xs) (suc i) h = slice_get-take n xs i (omega arith)

  -- what no element passes, none at a place passes
  fails_at : (p : X → Bool) (xs : List X) (i : ℕ) (x : X) → list_any p xs ≡ false → slice_get xs i ≡ Some x → p x ≡ false
  fails_at p [] i x h e = absurd (none-some x e)
  fails_at p (y ∷ ys) zero x h e = subst (λ z. p z ≡ false) (same_Some y x e) (or_left_false (p y) (list_any p ys) h)
  fails_at p (y ∷ ys) (suc i) x h e = fails_at p ys i x (or_right_false (p y) (list_any p ys) h) e

  -- what has a place is there
  pub any_at_place : (p : X → Bool) (xs : List X) (i : ℕ) (d : X) → position p xs ≡ Some i → list_any p xs ≡ true
  any_at_place p xs i d h = let s = position-Some p xs i d h in list_any_at p xs i d s.0 s.1

  none_later : (eq same : X → X → Bool) → ((a b : X) → eq a b ≡ same a b) → (x : X) (xs : List X) → AllByRecursion (λ y. eq x y ≡ false) xs → list_any (same x) xs ≡ false
  none_later eq same e x [] h = refl
  none_later eq same e x (y ∷ ys) h = rw (sym (e x y) ∙ h.0) (none_later eq same e x ys h.1)

  -- keys that no test tells apart are distinct
  pub Distinct-keys : (eq same : X → X → Bool) → ((a b : X) → eq a b ≡ same a b) → (xs : List X) → IsDistinct eq xs → Distinct same xs
  Distinct-keys eq same e [] h = tt
  Distinct-keys eq same e (x ∷ xs) h = (none_later eq same e x xs (IsDistinct-head eq x xs h), Distinct-keys eq same e xs (IsDistinct-tail eq x xs h))

module _ {X : Type 0} (same : X → X → Bool) (exact : (a b : X) → Decides (same a b) (a ≡ b)) where
  flipped : (a b : X) (r : Bool) → same b a ≡ r → same a b ≡ false → same b a ≡ false
  flipped a b true q h = let f : same a b ≡ true = (exact a b).1 (sym ((exact b a).0 q)) in cc
  flipped a b false q h = q

  -- no other element before it is the same
  earlier_apart : (xs : List X) (i k : ℕ) (x d : X) → Distinct same xs → slice_get xs i ≡ Some x → k < i → same x (get_or xs k d) ≡ false
  earlier_apart [] i k x d u e l = absurd (none-some x e)
  earlier_apart (y ∷ ys) zero k x d u e l = absurd (omega arith)
  earlier_apart (y ∷ ys) (suc i) zero x d u e l = flipped y x (same x y) refl (fails_at (same y) ys i x u.0 e)
  earlier_apart (y ∷ ys) (suc i) (suc k) x d u e l = earlier_apart ys i k x d u.1 e (omega arith)

  -- the element at the place that is found
  pub slice_get-position : (xs : List X) (i : ℕ) (x : X) → position (same x) xs ≡ Some i → slice_get xs i ≡ Some x
  slice_get-position xs i x h =
      let s = position-Some (same x) xs i x h in
      slice_get-get_or xs i x s.0 ∙ ap Some (sym ((exact x (get_or xs i x)).0 s.1))

  -- and the place that is found for the element there
  pub position-slice_get : (xs : List X) (i : ℕ) (x : X) → Distinct same xs → slice_get xs i ≡ Some x → position (same x) xs ≡ Some i
  position-slice_get xs i x u e =
      let inside = slice_get_within xs i x e in
      let here : same x (get_or xs i x) ≡ true = (exact x (get_or xs i x)).1 (sym (get_or_from_slice_get xs i x x e)) in
      let first = position_or_len_is (same x) xs i x (omega arith) (λ k l. earlier_apart xs i k x x u e l) (λ _. here) in
      rw (first, lt-ltb _ _ inside) refl
