-- Bags by how often an element stands in them: two lists are the same bag exactly where all counts are equal.
use Rattle.std.proofs.Common.{◌≡◌, ℕ, ◌+◌, ◌<◌, Bool, true, false, cond, ◌||◌, ◌⊎◌, inl, inr, List, [], ◌∷◌, ◌++◌, refl, sym, ◌∙◌, ap, subst, arith}
use Rattle.std.specs.Bool.{Decides}
use Rattle.std.specs.List.{filter, flat_map, list_any, sum_by}
use Rattle.std.specs.List.Sorted.{IsPermutation}
use Rattle.std.proofs.lemmas.List.Sums.{sum_by-cons}
use Rattle.std.proofs.lemmas.List.Sorted.{IsPermutation-refl, IsPermutation-sym, IsPermutation-trans, IsPermutation-cons, IsPermutation-middle, sum_by-IsPermutation}
use Rattle.qs_terms.specs.Bag.{SameBag, Distinct}
use Rattle.qs_terms.specs.inner.Bag.{times}

-- the sum of f over the list
abbrev pub total : {X : Type 0} → (X → ℕ) → List X → ℕ
total f [] = 0
total f (x ∷ xs) = f x + total f xs

-- P holds and n is 1, or P does not hold and n is 0
abbrev pub Once : Type 0 → ℕ → Type 0
Once P n = (P × (n ≡ 1)) ⊎ ((P → ⊥) × (n ≡ 0))

pub once_same : {P Q : Type 0} (n k : ℕ) → (P → Q) → (Q → P) → Once P n → Once Q k → n ≡ k
once_same n k f g (inl p) (inl q) = p.1 ∙ sym q.1
once_same n k f g (inl p) (inr q) = absurd (q.0 (f p.0))
once_same n k f g (inr p) (inl q) = absurd (p.0 (g q.0))
once_same n k f g (inr p) (inr q) = p.1 ∙ sym q.1

pub once_like : {P Q : Type 0} (n : ℕ) → (P → Q) → (Q → P) → Once P n → Once Q n
once_like n f g (inl p) = inl (f p.0, p.1)
once_like n f g (inr p) = inr ((λ q. p.0 (g q)), p.1)

pub once_at : {P : Type 0} (n k : ℕ) → n ≡ k → Once P k → Once P n
once_at n k e (inl p) = inl (p.0, e ∙ p.1)
once_at n k e (inr p) = inr (p.0, e ∙ p.1)

abbrev pub AnyOf : {X : Type 0} → (X → Type 0) → List X → Type 0
AnyOf P [] = ⊥
AnyOf P (x ∷ xs) = P x ⊎ AnyOf P xs

pub total-append : {X : Type 0} (f : X → ℕ) (xs ys : List X) → total f (xs ++ ys) ≡ total f xs + total f ys
total-append f [] ys = omega arith
total-append f (x ∷ xs) ys = omega (arith, total-append f xs ys)

pub total-ap : {X : Type 0} (f g : X → ℕ) → ((x : X) → f x ≡ g x) → (xs : List X) → total f xs ≡ total g xs
total-ap f g h [] = refl
total-ap f g h (x ∷ xs) = omega (arith, h x, total-ap f g h xs)

pub total_is : {X : Type 0} (f : X → ℕ) (xs : List X) → total f xs ≡ sum_by f xs
total_is f [] = refl
total_is f (x ∷ xs) = omega (arith, total_is f xs, sum_by-cons f x xs)

pub total-same : {X : Type 0} (f : X → ℕ) (xs ys : List X) → SameBag xs ys → total f xs ≡ total f ys
total-same f xs ys h = omega (arith, total_is f xs, total_is f ys, sum_by-IsPermutation f xs ys h)

pub cond_zero : (b : Bool) → let z : ℕ = 0 in z ≡ cond b 0 0
cond_zero true = refl
cond_zero false = refl

or_true : (b : Bool) → (b || true) ≡ true
or_true true = refl
or_true false = refl

module _ {X : Type 0} (same : X → X → Bool) where
  pub times_is : (a : X) (xs : List X) → times same a xs ≡ total (λ x. cond (same a x) 1 0) xs
  times_is a [] = refl
  times_is a (x ∷ xs) = ap (λ n. cond (same a x) 1 0 + n) (times_is a xs)

  pub times-append : (a : X) (xs ys : List X) → times same a (xs ++ ys) ≡ times same a xs + times same a ys
  times-append a [] ys = omega arith
  times-append a (x ∷ xs) ys = omega (arith, times-append a xs ys)

  pub times-flat_map : {T : Type 0} (f : T → List X) (a : X) (ts : List T) → times same a (flat_map f ts) ≡ total (λ t. times same a (f t)) ts
  times-flat_map f a [] = refl
  times-flat_map f a (t ∷ ts) = omega (arith, times-append a (f t) (flat_map f ts), times-flat_map f a ts)

  pub times-same : (a : X) (xs ys : List X) → SameBag xs ys → times same a xs ≡ times same a ys
  times-same a xs ys h = times_is a xs ∙ (total-same (λ x. cond (same a x) 1 0) xs ys h ∙ sym (times_is a ys))

module _ {X : Type 0} (same : X → X → Bool) (exact : (a b : X) → Decides (same a b) (a ≡ b)) where
  filter_step : (a x : X) (fs : List X) (n : ℕ) (b pa e : Bool) → same a x ≡ e → times same a fs ≡ cond pa n 0 → (e ≡ true → pa ≡ b) → times same a (cond b (x ∷ fs) fs) ≡ cond pa (cond e 1 0 + n) 0
  filter_step a x fs n true true e q h s = rw q (ap (λ k. cond e 1 0 + k) h)
  filter_step a x fs n true false true q h s = absurd (let f : false ≡ true = s refl in cc)
  filter_step a x fs n true false false q h s = rw q (omega (arith, h))
  filter_step a x fs n false true true q h s = absurd (let f : true ≡ false = s refl in cc)
  filter_step a x fs n false true false q h s = omega (arith, h)
  filter_step a x fs n false false e q h s = h

  pub times-filter : (p : X → Bool) (a : X) (xs : List X) → times same a (filter p xs) ≡ cond (p a) (times same a xs) 0
  times-filter p a [] = cond_zero (p a)
  times-filter p a (x ∷ xs) =
      filter_step a x (filter p xs) (times same a xs) (p x) (p a) (same a x) refl (times-filter p a xs) (λ e. ap p ((exact a x).0 e))

  pub once_filter_at : (P : Type 0) (n : ℕ) (b : Bool) → Once P n → Once (P × (b ≡ true)) (cond b n 0)
  once_filter_at P n true (inl p) = inl ((p.0, refl), p.1)
  once_filter_at P n true (inr p) = inr ((λ q. p.0 q.0), p.1)
  once_filter_at P n false w = inr ((λ q. let f : false ≡ true = q.1 in cc), refl)

  pub once-filter : {P : Type 0} (p : X → Bool) (a : X) (xs : List X) → Once P (times same a xs) → Once (P × (p a ≡ true)) (times same a (filter p xs))
  once-filter {P} p a xs w = once_at _ _ (times-filter p a xs) (once_filter_at P (times same a xs) (p a) w)

  abbrev Parted : X → List X → Type 0
  Parted a ys = (us : List X) × (vs : List X) × (ys ≡ us ++ (a ∷ vs))

  parted_later : (a y : X) (ys : List X) → Parted a ys → Parted a (y ∷ ys)
  parted_later a y ys w = (y ∷ w.0, w.1, ap (λ l. y ∷ l) w.2)

  parted : (a : X) (ys : List X) → 0 < times same a ys → Parted a ys
  parted a [] h = absurd (omega arith)
  parted a (y ∷ ys) h =
      elim (same a y) as (λ v. same a y ≡ v → 0 < cond v 1 0 + times same a ys → Parted a (y ∷ ys))
      [ true ↦ (λ e k. ([], ys, ap (λ z. z ∷ ys) (sym ((exact a y).0 e)))) | false ↦ (λ e k. parted_later a y ys (parted a ys (omega arith))) ] refl h

  itself : (a : X) → same a a ≡ true
  itself a = (exact a a).1 refl

  no_more : (ys : List X) → ((a : X) → 0 ≡ times same a ys) → [] ≡ ys
  no_more [] h = refl
  no_more (y ∷ ys) h = absurd (let k : 0 ≡ times same y (y ∷ ys) = h y in omega (arith, rw (itself y) at k))

  pub same_from_times : (xs ys : List X) → ((a : X) → times same a xs ≡ times same a ys) → SameBag xs ys
  same_from_times [] ys h = subst (λ (l : List X). IsPermutation [] l) (no_more ys h) (IsPermutation-refl [])
  same_from_times (x ∷ xs) ys h =
      let k : times same x (x ∷ xs) ≡ times same x ys = h x in
      let w : Parted x ys = parted x ys (omega (arith, rw (itself x) at k)) in
      let rest : SameBag xs (w.0 ++ w.1) =
      same_from_times xs (w.0 ++ w.1)
      (λ a. omega (arith, h a, times-append same a w.0 (x ∷ w.1), times-append same a w.0 w.1, ap (times same a) w.2)) in
      let front : IsPermutation (x ∷ xs) (x ∷ (w.0 ++ w.1)) = IsPermutation-cons x xs (w.0 ++ w.1) rest in
      let back : IsPermutation (x ∷ (w.0 ++ w.1)) ys =
      subst (λ (l : List X). IsPermutation (x ∷ (w.0 ++ w.1)) l) (sym w.2) (IsPermutation-sym _ _ (IsPermutation-middle w.0 x w.1)) in
      IsPermutation-trans (x ∷ xs) (x ∷ (w.0 ++ w.1)) ys front back

  -- the same bag where each element stands at most once, and in both or in none
  pub same_from_once : {P Q : X → Type 0} (xs ys : List X) → ((a : X) → P a → Q a) → ((a : X) → Q a → P a) → ((a : X) → Once (P a) (times same a xs)) → ((a : X) → Once (Q a) (times same a ys)) → SameBag xs ys
  same_from_once xs ys f g p q = same_from_times xs ys (λ a. once_same _ _ (f a) (g a) (p a) (q a))

  any_in : (P : X → Type 0) (x : X) (xs : List X) → ((y : X) → P y → x ≡ y) → AnyOf P xs → list_any (same x) xs ≡ true
  any_in P x [] one w = elim w [ ]
  any_in P x (y ∷ ys) one (inl p) = rw ((exact x y).1 (one y p)) refl
  any_in P x (y ∷ ys) one (inr w) = rw (any_in P x ys one w) (or_true (same x y))

  sum_step : (P : X → Type 0) (n : X → ℕ) (x : X) (xs : List X) → (AnyOf P xs → P x → ⊥) → Once (P x) (n x) → Once (AnyOf P xs) (total n xs) → Once (AnyOf P (x ∷ xs)) (total n (x ∷ xs))
  sum_step P n x xs apart (inl p) (inl q) = absurd (apart q.0 p.0)
  sum_step P n x xs apart (inl p) (inr q) = inl (inl p.0, omega arith)
  sum_step P n x xs apart (inr p) (inl q) = inl (inr q.0, omega arith)
  sum_step P n x xs apart (inr p) (inr q) = inr (elim [ inl h ↦ p.0 h | inr h ↦ q.0 h ], omega arith)

  -- P holds of at most one value, which stands at most once in the list
  pub once_total : (P : X → Type 0) (n : X → ℕ) → ((x y : X) → P x → P y → x ≡ y) → ((x : X) → Once (P x) (n x)) → (xs : List X) → Distinct same xs → Once (AnyOf P xs) (total n xs)
  once_total P n one each [] d = inr ((λ h. h), refl)
  once_total P n one each (x ∷ xs) d =
      sum_step P n x xs (λ w p. let t : list_any (same x) xs ≡ true = any_in P x xs (λ y q. one x y p q) w in let f : list_any (same x) xs ≡ false = d.0 in cc)
      (each x) (once_total P n one each xs d.1)
