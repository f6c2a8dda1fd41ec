-- What stands in a list, and lists in which each element stands once.
use Rattle.std.proofs.Common.{◌≡◌, ◌+◌, Bool, true, false, cond, not, ◌||◌, ◌⊎◌, inl, inr, List, [], ◌∷◌, ◌++◌, append_assoc, map, refl, sym, ◌∙◌, ap, subst, arith}
use Rattle.std.specs.Bool.{Decides}
use Rattle.std.specs.List.{filter, flat_map, list_any}
use Rattle.std.proofs.lemmas.List.{append-nil}
use Rattle.qs_terms.specs.Bag.{SameBag, Distinct, once, with_new}
use Rattle.qs_terms.specs.inner.Bag.{times}
use Rattle.qs_terms.proofs.Counts.{Once, same_from_once}

abbrev pub Mem : {X : Type 0} → X → List X → Type 0
Mem x [] = ⊥
Mem x (y ∷ ys) = (x ≡ y) ⊎ Mem x ys

pub or_cases : (a b : Bool) → (a || b) ≡ true → (a ≡ true) ⊎ (b ≡ true)
or_cases true b h = inl refl
or_cases false b h = inr h

pub or_left : (a b : Bool) → a ≡ true → (a || b) ≡ true
or_left true b h = refl
or_left false b h = let f : false ≡ true = h in cc

pub or_right : (a b : Bool) → b ≡ true → (a || b) ≡ true
or_right true b h = refl
or_right false b h = h

pub false_from : (b : Bool) → (b ≡ true → ⊥) → b ≡ false
false_from true h = absurd (h refl)
false_from false h = refl

pub not_both : {P : Type 0} (b : Bool) → b ≡ true → b ≡ false → P
not_both b t f = let e : true ≡ false = sym t ∙ f in cc

pub bool_same : (a b : Bool) → (a ≡ true → b ≡ true) → (b ≡ true → a ≡ true) → a ≡ b
bool_same true b f g = sym (f refl)
bool_same false true f g = g refl
bool_same false false f g = refl

module _ {X : Type 0} where
  pub mem_at : (x y : X) (xs : List X) → x ≡ y → Mem x xs → Mem y xs
  mem_at x y xs e h = subst (λ (z : X). Mem z xs) e h

  pub mem_left : (x : X) (xs ys : List X) → Mem x xs → Mem x (xs ++ ys)
  mem_left x [] ys h = elim h [ ]
  mem_left x (y ∷ xs) ys (inl e) = inl e
  mem_left x (y ∷ xs) ys (inr h) = inr (mem_left x xs ys h)

  pub mem_right : (x : X) (xs ys : List X) → Mem x ys → Mem x (xs ++ ys)
  mem_right x [] ys h = h
  mem_right x (y ∷ xs) ys h = inr (mem_right x xs ys h)

  pub mem_split : (x : X) (xs ys : List X) → Mem x (xs ++ ys) → Mem x xs ⊎ Mem x ys
  mem_split x [] ys h = inr h
  mem_split x (y ∷ xs) ys (inl e) = inl (inl e)
  mem_split x (y ∷ xs) ys (inr h) = elim (mem_split x xs ys h) [ inl k ↦ inl (inr k) | inr k ↦ inr k ]

  mem_cond : (x y : X) (b : Bool) (ys : List X) → Mem x (cond b (y ∷ ys) ys) → ((b ≡ true) × (x ≡ y)) ⊎ Mem x ys
  mem_cond x y true ys (inl e) = inl (refl, e)
  mem_cond x y true ys (inr h) = inr h
  mem_cond x y false ys h = inr h

  cond_here : (x y : X) (b : Bool) (ys : List X) → b ≡ true → x ≡ y → Mem x (cond b (y ∷ ys) ys)
  cond_here x y true ys t e = inl e
  cond_here x y false ys t e = let f : false ≡ true = t in cc

  cond_there : (x y : X) (b : Bool) (ys : List X) → Mem x ys → Mem x (cond b (y ∷ ys) ys)
  cond_there x y true ys h = inr h
  cond_there x y false ys h = h

  pub mem_filter : (p : X → Bool) (x : X) (xs : List X) → p x ≡ true → Mem x xs → Mem x (filter p xs)
  mem_filter p x [] t h = elim h [ ]
  mem_filter p x (y ∷ xs) t (inl e) = cond_here x y (p y) (filter p xs) (sym (ap p e) ∙ t) e
  mem_filter p x (y ∷ xs) t (inr h) = cond_there x y (p y) (filter p xs) (mem_filter p x xs t h)

  pub mem_of_filter : (p : X → Bool) (x : X) (xs : List X) → Mem x (filter p xs) → (p x ≡ true) × Mem x xs
  mem_of_filter p x [] h = elim h [ ]
  mem_of_filter p x (y ∷ xs) h =
      elim (mem_cond x y (p y) (filter p xs) h) [
        | inl k ↦ (ap p k.1 ∙ k.0, inl k.1)
        | inr k ↦ let w = mem_of_filter p x xs k in (w.0, inr w.1)
      ]

module _ {X Y : Type 0} where
  pub mem_map : (f : X → Y) (x : X) (xs : List X) → Mem x xs → Mem (f x) (map f xs)
  mem_map f x [] h = elim h [ ]
  mem_map f x (y ∷ xs) (inl e) = inl (ap f e)
  mem_map f x (y ∷ xs) (inr h) = inr (mem_map f x xs h)

  pub mem_of_map : (f : X → Y) (y : Y) (xs : List X) → Mem y (map f xs) → (x : X) × (Mem x xs × (y ≡ f x))
  mem_of_map f y [] h = elim h [ ]
  mem_of_map f y (x ∷ xs) (inl e) = (x, (inl refl, e))
  mem_of_map f y (x ∷ xs) (inr h) = let w = mem_of_map f y xs h in (w.0, (inr w.1.0, w.1.1))

  pub mem_flat : (f : X → List Y) (x : X) (y : Y) (xs : List X) → Mem x xs → Mem y (f x) → Mem y (flat_map f xs)
  mem_flat f x y [] h k = elim h [ ]
  mem_flat f x y (z ∷ xs) (inl e) k = mem_left y (f z) (flat_map f xs) (subst (λ (u : X). Mem y (f u)) e k)
  mem_flat f x y (z ∷ xs) (inr h) k = mem_right y (f z) (flat_map f xs) (mem_flat f x y xs h k)

  pub mem_of_flat : (f : X → List Y) (y : Y) (xs : List X) → Mem y (flat_map f xs) → (x : X) × (Mem x xs × Mem y (f x))
  mem_of_flat f y [] h = elim h [ ]
  mem_of_flat f y (z ∷ xs) h =
      elim (mem_split y (f z) (flat_map f xs) h) [
        | inl k ↦ (z, (inl refl, k))
        | inr k ↦ let w = mem_of_flat f y xs k in (w.0, (inr w.1.0, w.1.1))
      ]

module _ {X : Type 0} (same : X → X → Bool) (exact : (a b : X) → Decides (same a b) (a ≡ b)) where
  pub in_mem : (x : X) (xs : List X) → list_any (same x) xs ≡ true → Mem x xs
  in_mem x [] h = let f : false ≡ true = h in cc
  in_mem x (y ∷ xs) h = elim (or_cases (same x y) (list_any (same x) xs) h) [ inl e ↦ inl ((exact x y).0 e) | inr k ↦ inr (in_mem x xs k) ]

  pub mem_in : (x : X) (xs : List X) → Mem x xs → list_any (same x) xs ≡ true
  mem_in x [] h = elim h [ ]
  mem_in x (y ∷ xs) (inl e) = or_left (same x y) (list_any (same x) xs) ((exact x y).1 e)
  mem_in x (y ∷ xs) (inr h) = or_right (same x y) (list_any (same x) xs) (mem_in x xs h)

  pub not_in : (x : X) (xs : List X) → (Mem x xs → ⊥) → list_any (same x) xs ≡ false
  not_in x xs h = false_from (list_any (same x) xs) (λ k. h (in_mem x xs k))

  pub is_out : (x : X) (xs : List X) → list_any (same x) xs ≡ false → Mem x xs → ⊥
  is_out x xs f h = not_both (list_any (same x) xs) (mem_in x xs h) f

  pub distinct_filter : (p : X → Bool) (xs : List X) → Distinct same xs → Distinct same (filter p xs)
  distinct_filter p [] d = tt
  distinct_filter p (x ∷ xs) d = by (p x) (not_in x (filter p xs) (λ h. is_out x xs d.0 (mem_of_filter p x xs h).1)) (distinct_filter p xs d.1)
    where
      by : (b : Bool) → list_any (same x) (filter p xs) ≡ false → Distinct same (filter p xs) → Distinct same (cond b (x ∷ filter p xs) (filter p xs))
      by true f g = (f, g)
      by false f g = g

  not_true : (b : Bool) → not b ≡ true → b ≡ false
  not_true true h = let f : false ≡ true = h in cc
  not_true false h = refl

  pub distinct_once : (xs : List X) → Distinct same (once same xs)
  distinct_once [] = tt
  distinct_once (x ∷ xs) = (
    not_in x (filter (λ y. not (same x y)) (once same xs)) (λ h.
        not_both (same x x) ((exact x x).1 refl) (not_true (same x x) (mem_of_filter (λ y. not (same x y)) x (once same xs) h).0)),
    distinct_filter (λ y. not (same x y)) (once same xs) (distinct_once xs),
  )

  pub mem_of_once : (y : X) (xs : List X) → Mem y (once same xs) → Mem y xs
  mem_of_once y [] h = elim h [ ]
  mem_of_once y (x ∷ xs) (inl e) = inl e
  mem_of_once y (x ∷ xs) (inr h) = inr (mem_of_once y xs (mem_of_filter (λ z. not (same x z)) y (once same xs) h).1)

  pub mem_once : (y : X) (xs : List X) → Mem y xs → Mem y (once same xs)
  mem_once y [] h = elim h [ ]
  mem_once y (x ∷ xs) (inl e) = inl e
  mem_once y (x ∷ xs) (inr h) = by (same x y) refl (mem_once y xs h)
    where
      by : (b : Bool) → same x y ≡ b → Mem y (once same xs) → Mem y (x ∷ filter (λ z. not (same x z)) (once same xs))
      by true e m = inl (sym ((exact x y).0 e))
      by false e m = inr (mem_filter (λ z. not (same x z)) y (once same xs) (ap not e) m)

  -- one more element
  pub mem_with_new : (y x : X) (xs : List X) → Mem y (with_new same xs x) → Mem y xs ⊎ (y ≡ x)
  mem_with_new y x xs = by (list_any (same x) xs)
    where
      by : (b : Bool) → Mem y (cond b xs (xs ++ x ∷ [])) → Mem y xs ⊎ (y ≡ x)
      by true h = inl h
      by false h = elim (mem_split y xs (x ∷ []) h) [ inl k ↦ inl k | inr k ↦ elim k [ inl e ↦ inr e | inr f ↦ elim f [ ] ] ]

  pub with_new_has : (y x : X) (xs : List X) → Mem y xs ⊎ (y ≡ x) → Mem y (with_new same xs x)
  with_new_has y x xs h = by (list_any (same x) xs) refl h
    where
      by : (b : Bool) → list_any (same x) xs ≡ b → Mem y xs ⊎ (y ≡ x) → Mem y (cond b xs (xs ++ x ∷ []))
      by true e (inl m) = m
      by true e (inr i) = mem_at x y xs (sym i) (in_mem x xs e)
      by false e (inl m) = mem_left y xs (x ∷ []) m
      by false e (inr i) = mem_right y xs (x ∷ []) (inl i)

  distinct_last : (x : X) (xs : List X) → (Mem x xs → ⊥) → Distinct same xs → Distinct same (xs ++ x ∷ [])
  distinct_last x [] h d = (refl, tt)
  distinct_last x (y ∷ xs) h d = (
    not_in y (xs ++ x ∷ []) (λ m. elim (mem_split y xs (x ∷ []) m) [
      | inl k ↦ is_out y xs d.0 k
      | inr k ↦ elim k [ inl e ↦ h (inl (sym e)) | inr f ↦ elim f [ ] ]
    ]),
    distinct_last x xs (λ m. h (inr m)) d.1,
  )

  pub distinct_with_new : (x : X) (xs : List X) → Distinct same xs → Distinct same (with_new same xs x)
  distinct_with_new x xs d = by (list_any (same x) xs) refl
    where
      by : (b : Bool) → list_any (same x) xs ≡ b → Distinct same (cond b xs (xs ++ x ∷ []))
      by true e = d
      by false e = distinct_last x xs (is_out x xs e) d

  abbrev pub Extends : List X → List X → Type 0
  Extends xs ys = (zs : List X) × (ys ≡ xs ++ zs)

  pub extends_with_new : (x : X) (xs : List X) → Extends xs (with_new same xs x)
  extends_with_new x xs = by (list_any (same x) xs)
    where
      by : (b : Bool) → Extends xs (cond b xs (xs ++ x ∷ []))
      by true = ([], sym (append-nil xs))
      by false = (x ∷ [], refl)

  -- many more
  abbrev pub with_all : List X → List X → List X
  with_all xs [] = xs
  with_all xs (y ∷ ys) = with_all (with_new same xs y) ys

  pub mem_with_all : (y : X) (xs ys : List X) → Mem y (with_all xs ys) → Mem y xs ⊎ Mem y ys
  mem_with_all y xs [] h = inl h
  mem_with_all y xs (x ∷ ys) h =
      elim (mem_with_all y (with_new same xs x) ys h) [
        | inl k ↦ elim (mem_with_new y x xs k) [ inl m ↦ inl m | inr e ↦ inr (inl e) ]
        | inr k ↦ inr (inr k)
      ]

  pub with_all_has : (y : X) (xs ys : List X) → Mem y xs ⊎ Mem y ys → Mem y (with_all xs ys)
  with_all_has y xs [] (inl m) = m
  with_all_has y xs [] (inr m) = elim m [ ]
  with_all_has y xs (x ∷ ys) (inl m) = with_all_has y (with_new same xs x) ys (inl (with_new_has y x xs (inl m)))
  with_all_has y xs (x ∷ ys) (inr (inl e)) = with_all_has y (with_new same xs x) ys (inl (with_new_has y x xs (inr e)))
  with_all_has y xs (x ∷ ys) (inr (inr m)) = with_all_has y (with_new same xs x) ys (inr m)

  pub distinct_with_all : (xs ys : List X) → Distinct same xs → Distinct same (with_all xs ys)
  distinct_with_all xs [] d = d
  distinct_with_all xs (y ∷ ys) d = distinct_with_all (with_new same xs y) ys (distinct_with_new y xs d)

  pub extends_with_all : (xs ys : List X) → Extends xs (with_all xs ys)
  extends_with_all xs [] = ([], sym (append-nil xs))
  extends_with_all xs (y ∷ ys) =
      let a = extends_with_new y xs in
      let b = extends_with_all (with_new same xs y) ys in
      (a.0 ++ b.0, b.1 ∙ (ap (λ l. l ++ b.0) a.1 ∙ append_assoc xs a.0 b.0))

  -- two lists without repeats that have the same elements
  once_times : (a : X) (xs : List X) → Distinct same xs → Once (Mem a xs) (times same a xs)
  once_times a [] d = inr ((λ h. h), refl)
  once_times a (x ∷ xs) d = by (same a x) refl (once_times a xs d.1)
    where
      by : (b : Bool) → same a x ≡ b → Once (Mem a xs) (times same a xs) → Once (Mem a (x ∷ xs)) (cond b 1 0 + times same a xs)
      by true e (inl p) = absurd (is_out x xs d.0 (mem_at a x xs ((exact a x).0 e) p.0))
      by true e (inr p) = inl (inl ((exact a x).0 e), omega arith)
      by false e (inl p) = inl (inr p.0, omega arith)
      by false e (inr p) = inr (elim [ inl h ↦ not_both (same a x) ((exact a x).1 h) e | inr h ↦ p.0 h ], omega arith)

  pub same_bag : (xs ys : List X) → Distinct same xs → Distinct same ys → ((a : X) → Mem a xs → Mem a ys) → ((a : X) → Mem a ys → Mem a xs) → SameBag xs ys
  same_bag xs ys d e f g = same_from_once same exact xs ys f g (λ a. once_times a xs d) (λ a. once_times a ys e)
