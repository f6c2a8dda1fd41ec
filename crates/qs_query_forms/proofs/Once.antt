-- First occurrences: the same in lists that are the same bag, and no new ones.
use Rattle.std.proofs.Common.{◌≡◌, ℕ, ◌+◌, Bool, true, false, cond, not, ◌&&◌, List, [], ◌∷◌, min, refl, sym, ◌∙◌, ap, arith}
use Rattle.std.specs.Bool.{Decides}
use Rattle.std.specs.List.{filter, list_all}
use Rattle.qs_terms.specs.Bag.{SameBag, once}
use Rattle.qs_terms.specs.inner.Bag.{times}
use Rattle.qs_terms.proofs.Counts.{times-filter, times-same, same_from_times}

counted : (e : Bool) (n k : ℕ) → n ≡ min 1 k → cond e 1 0 + cond (not e) n 0 ≡ min 1 (cond e 1 0 + k)
counted true n k h = omega arith
counted false n k h = omega (arith, h)

module _ {X : Type 0} (same : X → X → Bool) (exact : (a b : X) → Decides (same a b) (a ≡ b)) where
  turned_at : (a b : X) (e f : Bool) → same a b ≡ e → same b a ≡ f → f ≡ e
  turned_at a b true true p q = refl
  turned_at a b true false p q = let t : same b a ≡ true = (exact b a).1 (sym ((exact a b).0 p)) in let f : true ≡ false = sym t ∙ q in cc
  turned_at a b false true p q = let t : same a b ≡ true = (exact a b).1 (sym ((exact b a).0 q)) in let f : true ≡ false = sym t ∙ p in cc
  turned_at a b false false p q = refl

  turned : (a b : X) → same b a ≡ same a b
  turned a b = turned_at a b (same a b) (same b a) refl refl

  -- an element stands there once, where it stands in the list at all
  pub times-once : (a : X) (xs : List X) → times same a (once same xs) ≡ min 1 (times same a xs)
  times-once a [] = omega arith
  times-once a (x ∷ xs) =
      ap (λ n. cond (same a x) 1 0 + n)
      (times-filter same exact (λ y. not (same x y)) a (once same xs) ∙ ap (λ b. cond (not b) (times same a (once same xs)) 0) (turned a x))
      ∙ counted (same a x) (times same a (once same xs)) (times same a xs) (times-once a xs)

  pub same_once : (xs ys : List X) → SameBag xs ys → SameBag (once same xs) (once same ys)
  same_once xs ys h =
      same_from_times same exact (once same xs) (once same ys)
      (λ a. times-once a xs ∙ (ap (min 1) (times-same same a xs ys h) ∙ sym (times-once a ys)))

  kept_at : (p : X → Bool) (x : X) (fs : List X) (b : Bool) → p x ≡ true → list_all p fs ≡ true → list_all p (cond b (x ∷ fs) fs) ≡ true
  kept_at p x fs true e h = rw (e, h) refl
  kept_at p x fs false e h = h

  left_true : (a b : Bool) → (a && b) ≡ true → a ≡ true
  left_true true b h = refl
  left_true false b h = h

  right_true : (a b : Bool) → (a && b) ≡ true → b ≡ true
  right_true true b h = h
  right_true false b h = let f : false ≡ true = h in cc

  all_kept : (p q : X → Bool) (xs : List X) → list_all p xs ≡ true → list_all p (filter q xs) ≡ true
  all_kept p q [] h = refl
  all_kept p q (x ∷ xs) h = kept_at p x (filter q xs) (q x) (left_true (p x) (list_all p xs) h) (all_kept p q xs (right_true (p x) (list_all p xs) h))

  -- what holds of all elements holds of their first occurrences
  pub all_once : (p : X → Bool) (xs : List X) → list_all p xs ≡ true → list_all p (once same xs) ≡ true
  all_once p [] h = refl
  all_once p (x ∷ xs) h =
      let rest : list_all p (filter (λ y. not (same x y)) (once same xs)) ≡ true =
      all_kept p (λ y. not (same x y)) (once same xs) (all_once p xs (right_true (p x) (list_all p xs) h)) in
      rw (left_true (p x) (list_all p xs) h, rest) refl
