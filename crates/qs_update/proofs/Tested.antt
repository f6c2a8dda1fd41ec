-- Tests that all elements of a list pass, and so all of what is made of it.
use Rattle.std.proofs.Common.{◌≡◌, ℕ, Bool, true, false, ◌&&◌, cond, not, List, [], ◌∷◌, ◌++◌, map, take, drop, refl, sym, subst}
use Rattle.std.proofs.lemmas.List.{take-append-drop}
use Rattle.std.specs.List.{filter, list_all}
use Rattle.qs_terms.specs.Bag.{once}

pub both_hold : (a b : Bool) → (a && b) ≡ true → (a ≡ true) × (b ≡ true)
both_hold true b h = (refl, h)
both_hold false b h = let f : false ≡ true = h in cc

pub and_both : (a b : Bool) → a ≡ true → b ≡ true → (a && b) ≡ true
and_both true b h k = k
and_both false b h k = h

module _ {X : Type 0} (test : X → Bool) where
  kept : (b : Bool) (x : X) (xs : List X) → test x ≡ true → list_all test xs ≡ true → list_all test (cond b (x ∷ xs) xs) ≡ true
  kept true x xs h k = and_both (test x) (list_all test xs) h k
  kept false x xs h k = k

  pub all_filtered : (keep : X → Bool) (xs : List X) → list_all test xs ≡ true → list_all test (filter keep xs) ≡ true
  all_filtered keep [] h = refl
  all_filtered keep (x ∷ xs) h = let k = both_hold (test x) (list_all test xs) h in kept (keep x) x (filter keep xs) k.0 (all_filtered keep xs k.1)

  pub all_once : (same : X → X → Bool) (xs : List X) → list_all test xs ≡ true → list_all test (once same xs) ≡ true
  all_once same [] h = refl
  all_once same (x ∷ xs) h =
      let k = both_hold (test x) (list_all test xs) h in
      let others : X → Bool = λ y. not (same x y) in
      and_both (test x) (list_all test (filter others (once same xs))) k.0 (all_filtered others (once same xs) (all_once same xs k.1))

  pub all_appended : (xs ys : List X) → list_all test xs ≡ true → list_all test ys ≡ true → list_all test (xs ++ ys) ≡ true
  all_appended [] ys h k = k
  all_appended (x ∷ xs) ys h k = let l = both_hold (test x) (list_all test xs) h in and_both (test x) (list_all test (xs ++ ys)) l.0 (all_appended xs ys l.1 k)

  all_after : (xs ys : List X) → list_all test (xs ++ ys) ≡ true → list_all test ys ≡ true
  all_after [] ys h = h
  all_after (x ∷ xs) ys h = all_after xs ys (both_hold (test x) (list_all test (xs ++ ys)) h).1

  pub all_dropped : (n : ℕ) (xs : List X) → list_all test xs ≡ true → list_all test (drop n xs) ≡ true
  all_dropped n xs h = all_after (take n xs) (drop n xs) (subst (λ (l : List X). list_all test l ≡ true) (sym (take-append-drop n xs)) h)

  pub all_mapped : (f : X → X) → ((x : X) → test x ≡ true → test (f x) ≡ true) → (xs : List X) → list_all test xs ≡ true → list_all test (map f xs) ≡ true
  all_mapped f h [] k = refl
  all_mapped f h (x ∷ xs) k = let l = both_hold (test x) (list_all test xs) k in and_both (test (f x)) (list_all test (map f xs)) (h x l.0) (all_mapped f h xs l.1)
