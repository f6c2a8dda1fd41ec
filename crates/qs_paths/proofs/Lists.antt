-- Members of lists, and lists of which no element stands twice.
use Rattle.std.proofs.Common.{◌≡◌, ℕ, ◌+◌, Bool, true, false, cond, not, ◌||◌, inl, inr, ⊎_elim, List, [], ◌∷◌, map, refl, sym, ◌∙◌, ap, subst, arith}
use Rattle.std.specs.Bool.{Decides}
use Rattle.std.specs.List.{Contains, filter, list_any}
use Rattle.qs_terms.specs.Bag.{Distinct, SameBag, once}
use Rattle.qs_terms.specs.inner.Bag.{times}
use Rattle.qs_terms.proofs.Counts.{Once, same_from_once}
use Rattle.qs_store.proofs.Members.{nothing, head_or_tail, here, there, member_of_filter, filter_has}

pub map_has : {X Y : Type 0} (f : X → Y) (x : X) (xs : List X) → Contains xs x → Contains (map f xs) (f x)
map_has f x [] c = absurd (nothing x c)
map_has f x (y ∷ ys) c =
    ⊎_elim (λ s. subst (λ r. Contains (f y ∷ map f ys) (f r)) s (here (f y) (map f ys))) (λ t. there (f y) (f x) (map f ys) (map_has f x ys t)) (head_or_tail y ys x c)

pub record Mapped {X Y : Type 0} (f : X → Y) (y : Y) (xs : List X) : Type 0 where
  pub of : X
  pub stands : Contains xs of
  pub is : f of ≡ y

pub member_of_map : {X Y : Type 0} (f : X → Y) (y : Y) (xs : List X) → Contains (map f xs) y → Mapped f y xs
member_of_map f y [] c = absurd (nothing y c)
member_of_map f y (x ∷ xs) c =
    ⊎_elim (λ s. record { of = x; stands = here x xs; is = s }) (λ t. let m = member_of_map f y xs t in record { of = m.of; stands = there x m.of xs m.stands; is = m.is }) (head_or_tail (f x) (map f xs) y c)

or_left : (a b : Bool) → a ≡ true → (a || b) ≡ true
or_left a b h = rw h refl

or_right : (a b : Bool) → b ≡ true → (a || b) ≡ true
or_right true b h = refl
or_right false b h = h

module _ {X : Type 0} (same : X → X → Bool) (exact : (a b : X) → Decides (same a b) (a ≡ b)) where
  pub any_of : (a : X) (xs : List X) → Contains xs a → list_any (same a) xs ≡ true
  any_of a [] c = absurd (nothing a c)
  any_of a (x ∷ xs) c =
      ⊎_elim (λ s. or_left (same a x) (list_any (same a) xs) ((exact a x).1 (sym s))) (λ t. or_right (same a x) (list_any (same a) xs) (any_of a xs t)) (head_or_tail x xs a c)

  pub of_any : (a : X) (xs : List X) → list_any (same a) xs ≡ true → Contains xs a
  of_any a [] h = let f : false ≡ true = h in cc
  of_any a (x ∷ xs) h = at (same a x) refl h (of_any a xs)
    where
      at : (b : Bool) → same a x ≡ b → (b || list_any (same a) xs) ≡ true → (list_any (same a) xs ≡ true → Contains xs a) → Contains (x ∷ xs) a
      at true e k i = subst (Contains (x ∷ xs)) (sym ((exact a x).0 e)) (here x xs)
      at false e k i = there x a xs (i k)

  once_step : (a x : X) (xs : List X) (n : ℕ) (b : Bool) → same a x ≡ b → list_any (same x) xs ≡ false → Once (Contains xs a) n → Once (Contains (x ∷ xs) a) (cond b 1 0 + n)
  once_step a x xs n true e d (inl p) =
      let k : a ≡ x = (exact a x).0 e in
      let f : list_any (same x) xs ≡ true = any_of x xs (subst (Contains xs) k p.0) in cc
  once_step a x xs n true e d (inr p) = inl (subst (Contains (x ∷ xs)) (sym ((exact a x).0 e)) (here x xs), omega (arith, p.1))
  once_step a x xs n false e d (inl p) = inl (there x a xs p.0, omega (arith, p.1))
  once_step a x xs n false e d (inr p) =
      inr ((λ c. ⊎_elim (λ s. let f : same a x ≡ true = (exact a x).1 (sym s) in let g : true ≡ false = sym f ∙ e in cc) (λ t. p.0 t) (head_or_tail x xs a c)), omega (arith, p.1))

  times_once : (xs : List X) → Distinct same xs → (a : X) → Once (Contains xs a) (times same a xs)
  times_once [] d a = inr ((λ c. nothing a c), refl)
  times_once (x ∷ xs) d a = once_step a x xs (times same a xs) (same a x) refl d.0 (times_once xs d.1 a)

  pub once_has : (a : X) (xs : List X) → Contains xs a → Contains (once same xs) a
  once_has a [] c = c
  once_has a (x ∷ xs) c =
      ⊎_elim (λ s. subst (Contains (once same (x ∷ xs))) s (here x (filter (λ u. not (same x u)) (once same xs)))) (λ t. at (same x a) refl (once_has a xs t)) (head_or_tail x xs a c)
    where
      at : (b : Bool) → same x a ≡ b → Contains (once same xs) a → Contains (once same (x ∷ xs)) a
      at true e k = subst (Contains (once same (x ∷ xs))) ((exact x a).0 e) (here x (filter (λ u. not (same x u)) (once same xs)))
      at false e k = there x a (filter (λ u. not (same x u)) (once same xs)) (filter_has (λ u. not (same x u)) a (once same xs) k (ap not e))

  pub once_only : (a : X) (xs : List X) → Contains (once same xs) a → Contains xs a
  once_only a [] c = c
  once_only a (x ∷ xs) c =
      ⊎_elim (λ s. subst (Contains (x ∷ xs)) s (here x xs)) (λ t. there x a xs (once_only a xs ((member_of_filter (λ u. not (same x u)) a (once same xs) t).0))) (head_or_tail x (filter (λ u. not (same x u)) (once same xs)) a c)

  -- the same bag, where each element stands once and in both
  pub same_members : (xs ys : List X) → Distinct same xs → Distinct same ys → ((a : X) → Contains xs a → Contains ys a) → ((a : X) → Contains ys a → Contains xs a) → SameBag xs ys
  same_members xs ys d e f g = same_from_once same exact {P = Contains xs} {Q = Contains ys} xs ys f g (times_once xs d) (times_once ys e)
