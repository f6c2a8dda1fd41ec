-- What holds of each element of a list.
use Rattle.std.proofs.Common.{◌≡◌, Bool, true, false, ◌&&◌, cond, if◌then◌else◌, not, List, [], ◌∷◌, ◌++◌, map, ◌↔◌, suc, refl, arith}
use Rattle.std.specs.List.{AllByRecursion, Contains, filter, flat_map, list_all}
use Rattle.std.proofs.lemmas.List.Elements.{All-from_recursion, All-contains}
use Rattle.qs_terms.specs.Bag.{once}

pub both_hold : (a b : Bool) → (a && b) ≡ true → (a ≡ true) × (b ≡ true)
both_hold true b h = (refl, h)
both_hold false b h = let f : false ≡ true = h in cc

pub and_both : (a b : Bool) → a ≡ true → b ≡ true → (a && b) ≡ true
and_both true b h k = k
and_both false b h k = h

module _ {X : Type 0} (P : X → Type 0) where
  pub each_append : (xs ys : List X) → AllByRecursion P xs → AllByRecursion P ys → AllByRecursion P (xs ++ ys)
  each_append [] ys h k = k
  each_append (x ∷ xs) ys h k = (h.0, each_append xs ys h.1 k)

  kept : (x : X) (xs : List X) (b : Bool) → P x → AllByRecursion P xs → AllByRecursion P (cond b (x ∷ xs) xs)
  kept x xs true h k = (h, k)
  kept x xs false h k = k

  pub each_filter : (test : X → Bool) (xs : List X) → AllByRecursion P xs → AllByRecursion P (filter test xs)
  each_filter test [] h = tt
  each_filter test (x ∷ xs) h = kept x (filter test xs) (test x) h.0 (each_filter test xs h.1)

  pub each_once : (same : X → X → Bool) (xs : List X) → AllByRecursion P xs → AllByRecursion P (once same xs)
  each_once same [] h = tt
  each_once same (x ∷ xs) h = (h.0, each_filter (λ y. not (same x y)) (once same xs) (each_once same xs h.1))

  pub each_where : (b : Bool) (xs : List X) → AllByRecursion P xs → AllByRecursion P (if b then xs else [])
  each_where true xs h = h
  each_where false xs h = tt

module _ {X Y : Type 0} (P : X → Type 0) (Q : Y → Type 0) where
  pub each_map : (f : X → Y) → ((x : X) → P x → Q (f x)) → (xs : List X) → AllByRecursion P xs → AllByRecursion Q (map f xs)
  each_map f h [] k = tt
  each_map f h (x ∷ xs) k = (h x k.0, each_map f h xs k.1)

  pub each_flat_map : (f : X → List Y) → ((x : X) → P x → AllByRecursion Q (f x)) → (xs : List X) → AllByRecursion P xs → AllByRecursion Q (flat_map f xs)
  each_flat_map f h [] k = tt
  each_flat_map f h (x ∷ xs) k = each_append Q (f x) (flat_map f xs) (h x k.0) (each_flat_map f h xs k.1)

-- ---- tests

module _ {X : Type 0} (test : X → Bool) where
  pub each_passes : (xs : List X) → list_all test xs ≡ true → AllByRecursion (λ x. test x ≡ true) xs
  each_passes [] h = tt
  each_passes (x ∷ xs) h = let k = both_hold (test x) (list_all test xs) h in (k.0, each_passes xs k.1)

  pub all_pass : (xs : List X) → AllByRecursion (λ x. test x ≡ true) xs → list_all test xs ≡ true
  all_pass [] h = refl
  all_pass (x ∷ xs) h = and_both (test x) (list_all test xs) h.0 (all_pass xs h.1)

-- ---- elements

module _ {X : Type 0} (P : X → Type 0) where
  pub each_contained : (xs : List X) → ((x : X) → Contains xs x → P x) → AllByRecursion P xs
  each_contained [] h = tt
  each_contained (x ∷ xs) h = (h x (0, omega arith, refl), each_contained xs (λ y c. h y (suc c.0, omega (arith, c.1), c.2)))

-- a test of all is one of each
pub all_or_each : {X : Type 0} (test : X → Bool) (xs : List X) → (list_all test xs ≡ true) ↔ ((x : X) → Contains xs x → test x ≡ true)
all_or_each {X} test xs =
    let P : X → Type 0 = λ x. test x ≡ true in
    (λ h x c. All-contains P xs x (All-from_recursion P xs (each_passes test xs h)) c, λ h. all_pass test xs (each_contained P xs h))
