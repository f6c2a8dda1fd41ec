-- A sorted list without repetitions has each element once.
use Rattle.std.proofs.Common.{◌≡◌, ◌+◌, Bool, true, false, cond, not, ◌||◌, List, [], ◌∷◌, refl, sym, ◌∙◌, ap, is_eq, arith}
use Rattle.std.specs.Bool.{Decides}
use Rattle.std.specs.Cmp.{IsTotalOrder}
use Rattle.std.specs.List.{AllByRecursion, dedup, filter, list_any}
use Rattle.std.specs.List.Sorted.{IsPermutation, IsSorted, IsStrictlySortedBy}
use Rattle.std.specs.Ordering.{eq_by_cmp}
use Rattle.std.specs.declared.cmp.Ordering.{Ordering}
use Rattle.std.specs.declared.cmp.Ordering.TheVariants.{Less}
use Rattle.std.proofs.lemmas.List.Kept.{IsStrictlySortedBy-dedup}
use Rattle.std.proofs.lemmas.List.Sorted.{list_any-IsPermutation}
use Rattle.qs_terms.specs.Bag.{SameBag, Distinct, once}
use Rattle.qs_terms.specs.inner.Bag.{times}
use Rattle.qs_terms.proofs.Counts.{same_from_times}
use Rattle.qs_terms.proofs.FirstOnes.{any_kept, none_kept, once_distinct, or_left_false, or_right_false}

module _ {X : Type 0} (p : X → Bool) where
  or_twice : (a b : Bool) → (a || b) ≡ (a || (a || b))
  or_twice true b = refl
  or_twice false b = refl

  -- what `dedup` leaves has the same elements
  module _ (same : X → X → Bool) (alike : (x y : X) → same x y ≡ true → p x ≡ p y) where
    any_by : (k x : X) (xs : List X) (b : Bool) → same x k ≡ b → list_any p (dedup same (k ∷ xs)) ≡ (p k || list_any p xs) → list_any p (dedup same (x ∷ xs)) ≡ (p x || list_any p xs)
        → list_any p (cond b (dedup same (k ∷ xs)) (k ∷ dedup same (x ∷ xs))) ≡ (p k || (p x || list_any p xs))
    any_by k x xs true e h f = h ∙ (or_twice (p k) (list_any p xs) ∙ ap (λ b. p k || (b || list_any p xs)) (sym (alike x k e)))
    any_by k x xs false e h f = ap (λ b. p k || b) f

    any_from : (k : X) (xs : List X) → list_any p (dedup same (k ∷ xs)) ≡ (p k || list_any p xs)
    any_from k [] = refl
    any_from k (x ∷ xs) = any_by k x xs (same x k) refl (any_from k xs) (any_from x xs)

    pub any_dedup : (xs : List X) → list_any p (dedup same xs) ≡ list_any p xs
    any_dedup [] = refl
    any_dedup (x ∷ xs) = any_from x xs

module _ {X : Type 0} (same : X → X → Bool) (exact : (a b : X) → Decides (same a b) (a ≡ b)) where
  -- ---- how often an element stands in a list of distinct ones

  absent : (a : X) (xs : List X) → list_any (same a) xs ≡ false → times same a xs ≡ 0
  absent a [] h = refl
  absent a (x ∷ xs) h =
      let here : same a x ≡ false = or_left_false (same a x) (list_any (same a) xs) h in
      let later : times same a xs ≡ 0 = absent a xs (or_right_false (same a x) (list_any (same a) xs) h) in
      ap (λ b. cond b 1 0 + times same a xs) here ∙ omega (arith, later)

  counted_at : (a x : X) (xs : List X) (b c : Bool) → same a x ≡ b → list_any (same a) xs ≡ c → list_any (same x) xs ≡ false → times same a xs ≡ cond c 1 0
      → cond b 1 0 + times same a xs ≡ cond (b || c) 1 0
  counted_at a x xs true true e f g h =
      let is : a ≡ x = (exact a x).0 e in let t : list_any (same a) xs ≡ false = ap (λ y. list_any (same y) xs) is ∙ g in absurd (let u : true ≡ false = sym f ∙ t in cc)
  counted_at a x xs true false e f g h = omega (arith, h)
  counted_at a x xs false c e f g h = omega (arith, h)

  pub counted : (a : X) (xs : List X) → Distinct same xs → times same a xs ≡ cond (list_any (same a) xs) 1 0
  counted a [] d = refl
  counted a (x ∷ xs) d = counted_at a x xs (same a x) (list_any (same a) xs) refl refl d.0 (counted a xs d.1)

  -- ---- which elements stand in a list of first occurrences

  other : (a x : X) (b : Bool) → same a x ≡ false → same x a ≡ b → not b ≡ true
  other a x true e f = let t : same a x ≡ true = (exact a x).1 (sym ((exact x a).0 f)) in let u : true ≡ false = sym t ∙ e in cc
  other a x false e f = refl

  kept_at : (a x : X) (ts : List X) (b : Bool) → list_any (same a) ts ≡ b → not (same x a) ≡ true → list_any (same a) (filter (λ y. not (same x y)) ts) ≡ b
  kept_at a x ts true e k = any_kept same exact a (λ y. not (same x y)) ts k e
  kept_at a x ts false e k = none_kept same exact a (λ y. not (same x y)) ts e

  any_once_at : (a x : X) (xs : List X) (b : Bool) → same a x ≡ b → list_any (same a) (once same xs) ≡ list_any (same a) xs
      → (b || list_any (same a) (filter (λ y. not (same x y)) (once same xs))) ≡ (b || list_any (same a) xs)
  any_once_at a x xs true e h = refl
  any_once_at a x xs false e h = kept_at a x (once same xs) (list_any (same a) (once same xs)) refl (other a x (same x a) e refl) ∙ h

  pub any_once : (a : X) (xs : List X) → list_any (same a) (once same xs) ≡ list_any (same a) xs
  any_once a [] = refl
  any_once a (x ∷ xs) = any_once_at a x xs (same a x) refl (any_once a xs)

module _ {X : Type 0} (same : X → X → Bool) (exact : (a b : X) → Decides (same a b) (a ≡ b)) (R : X → X → Ordering) (tells : (a b : X) → is_eq (R a b) ≡ same a b) where
  below_none : (x : X) (ys : List X) → AllByRecursion (λ y. R x y ≡ Less) ys → list_any (same x) ys ≡ false
  below_none x [] h = refl
  below_none x (y ∷ ys) h = rw (sym (tells x y) ∙ ap is_eq h.0, below_none x ys h.1) refl

  pub strictly_distinct : (xs : List X) → IsStrictlySortedBy R xs → Distinct same xs
  unfolding IsStrictlySortedBy
  strictly_distinct [] h = tt
  strictly_distinct (x ∷ xs) h = (below_none x xs h.0, strictly_distinct xs h.1)

  -- a list, sorted and without repetitions, has the elements of the list, each once
  pub sorted_once : (E : X → X → Bool) → ((x y : X) → E x y ≡ same x y) → IsTotalOrder R → ((x y : X) → E x y ≡ eq_by_cmp R x y) → (xs ys zs : List X) → IsPermutation xs ys → IsSorted R ys → zs ≡ dedup E ys → SameBag zs (once same xs)
  sorted_once E is total ties xs ys zs moved sorted left =
      let alike : (a x y : X) → E x y ≡ true → same a x ≡ same a y = λ a x y h. ap (same a) ((exact x y).0 (sym (is x y) ∙ h)) in
      let distinct : Distinct same (dedup E ys) = strictly_distinct (dedup E ys) (IsStrictlySortedBy-dedup total ties ys sorted) in
      rw left (same_from_times same exact (dedup E ys) (once same xs)
      (λ a. counted same exact a (dedup E ys) distinct
      ∙ (ap (λ b. cond b 1 0) (any_dedup (same a) E (alike a) ys ∙ (sym (list_any-IsPermutation (same a) xs ys moved) ∙ sym (any_once same exact a xs)))
      ∙ sym (counted same exact a (once same xs) (once_distinct same exact xs)))))
