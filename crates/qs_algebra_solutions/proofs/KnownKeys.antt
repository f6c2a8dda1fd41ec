-- Which elements are known already, by a set of keys that denote those that were met.
use Rattle.std.proofs.Common.{◌≡◌, Bool, true, false, ◌||◌, if◌then◌else◌, List, [], ◌∷◌, ◌++◌, map, is_eq, refl, sym, ◌∙◌, ap}
use Rattle.std.specs.Bool.{Decides}
use Rattle.std.specs.BTreeMap.{is_at}
use Rattle.std.specs.BTreeSet.{insert_key}
use Rattle.std.specs.List.{list_any}
use Rattle.std.specs.Ordering.{match_ordering}
use Rattle.std.specs.declared.cmp.Ordering.{Ordering}
use Rattle.std.specs.declared.cmp.Ordering.TheVariants.{Less, Equal, Greater}
use Rattle.qs_terms.specs.Bag.{once, with_new}
use Rattle.qs_terms.proofs.FirstOnes.{once_with}

again : (a r : Bool) → (a || r) ≡ (a || (a || r))
again true r = refl
again false r = refl

swapped : (a b r : Bool) → (a || (b || r)) ≡ (b || (a || r))
swapped true true r = refl
swapped true false r = refl
swapped false b r = refl

-- keys that denote elements, whose order tells the same ones apart from all others
module _ {K X : Type 0} (read : K → X) (same : X → X → Bool) (exact : (a b : X) → Decides (same a b) (a ≡ b)) (order : K → K → Ordering) (tells : (a b : K) → is_eq (order a b) ≡ same (read a) (read b)) where
  -- the set finds an element by its key
  pub has_test : (q : K) (ks : List K) → list_any (is_at (order q)) ks ≡ list_any (same (read q)) (map read ks)
  has_test q [] = refl
  has_test q (k ∷ ks) = rw (tells q k, has_test q ks) refl

  inserted_at : (x : X) (q k : K) (ks : List K) (o : Ordering) → order q k ≡ o → list_any (same x) (map read (insert_key order ks q)) ≡ (same x (read q) || list_any (same x) (map read ks))
      → list_any (same x) (map read (match_ordering o (q ∷ k ∷ ks) (k ∷ ks) (k ∷ insert_key order ks q))) ≡ (same x (read q) || (same x (read k) || list_any (same x) (map read ks)))
  inserted_at x q k ks Less e h = refl
  inserted_at x q k ks Equal e h =
      let s : read q ≡ read k = (exact (read q) (read k)).0 (sym (tells q k) ∙ ap is_eq e) in
      again (same x (read k)) (list_any (same x) (map read ks)) ∙ ap (λ (y : X). same x y || (same x (read k) || list_any (same x) (map read ks))) (sym s)
  inserted_at x q k ks Greater e h =
      ap (λ r. same x (read k) || r) h ∙ swapped (same x (read k)) (same x (read q)) (list_any (same x) (map read ks))

  inserted : (x : X) (q : K) (ks : List K) → list_any (same x) (map read (insert_key order ks q)) ≡ (same x (read q) || list_any (same x) (map read ks))
  inserted x q [] = refl
  inserted x q (k ∷ ks) = inserted_at x q k ks (order q k) refl (inserted x q ks)

  any_last : (x q : X) (fs : List X) → (same x q || list_any (same x) fs) ≡ list_any (same x) (fs ++ q ∷ [])
  any_last x q [] = refl
  any_last x q (f ∷ fs) = swapped (same x q) (same x f) (list_any (same x) fs) ∙ ap (λ r. same x f || r) (any_last x q fs)

  -- the set knows the elements that are kept
  abbrev pub Knows : List K → List X → Type 0
  Knows ks fs = (x : X) → list_any (same x) (map read ks) ≡ list_any (same x) fs

  -- and one more, where it is kept
  pub knows_more : (q : K) (ks ks' : List K) (fs fs' : List X) → Knows ks fs → ks' ≡ insert_key order ks q → fs' ≡ fs ++ read q ∷ [] → Knows ks' fs'
  knows_more q ks ks' fs fs' h e f x =
      ap (λ l. list_any (same x) (map read l)) e
      ∙ (inserted x q ks ∙ (ap (λ r. same x (read q) || r) (h x) ∙ (any_last x (read q) fs ∙ ap (list_any (same x)) (sym f))))

  pub knows_still : (ks ks' : List K) (fs fs' : List X) → Knows ks fs → ks' ≡ ks → fs' ≡ fs → Knows ks' fs'
  knows_still ks ks' fs fs' h e f x = ap (λ l. list_any (same x) (map read l)) e ∙ (h x ∙ ap (list_any (same x)) (sym f))

  pub new_at : (b : Bool) (x : X) (xs : List X) → list_any (same x) xs ≡ b → with_new same xs x ≡ (if b then xs else xs ++ x ∷ [])
  new_at b x xs e = rw e refl

  -- a new element is kept, and a known one isn't
  module _ (xs : List X) (q : K) (ks : List K) (fs fs' : List X) (kept : fs ≡ once same xs) (known : Knows ks fs) where
    one_more : once same (xs ++ read q ∷ []) ≡ with_new same fs (read q)
    one_more = once_with same exact xs (read q) ∙ ap (λ l. with_new same l (read q)) (sym kept)

    had : (b : Bool) → list_any (is_at (order q)) ks ≡ b → list_any (same (read q)) fs ≡ b
    had b e = sym (sym e ∙ (has_test q ks ∙ known (read q)))

    pub kept_new : list_any (is_at (order q)) ks ≡ false → fs' ≡ fs ++ read q ∷ [] → fs' ≡ once same (xs ++ read q ∷ [])
    kept_new e f = f ∙ sym (one_more ∙ new_at false (read q) fs (had false e))

    pub kept_known : list_any (is_at (order q)) ks ≡ true → fs' ≡ fs → fs' ≡ once same (xs ++ read q ∷ [])
    kept_known e f = f ∙ sym (one_more ∙ new_at true (read q) fs (had true e))
