-- An index of the last declaration of each prefix, in a map whose keys are pieces of the text.
use denote.Ref.{Bor}
use Rattle.std.proofs.Common.{◌≡◌, ◌<◌, ℕ, zero, suc, Bool, true, false, List, [], ◌∷◌, ◌++◌, length, map, reverse, Option, Some, None, cond, if◌then◌else◌, slice_get, option_map, refl, sym, ap, subst, ◌∙◌, ◌+◌, arith}
use Rattle.std.proofs.lemmas.Bool.{false≢true}
use Rattle.std.proofs.lemmas.List.{map-append, reverse-append, length-append}
use Rattle.std.specs.declared.cmp.Ordering.{Ordering}
use Rattle.std.specs.declared.cmp.Ordering.TheVariants.{Less, Equal, Greater}
use Rattle.std.specs.Ordering.{nat_cmp, is_eq}
use Rattle.std.specs.Cmp.Lexicographic.{slice_cmp, bytes_decides}
use Rattle.std.specs.Str.{bytes_eq}
use Rattle.std.specs.Map.{lookup}
use Rattle.std.specs.BTreeMap.{is_at, insert_entry}
use Rattle.std.proofs.lemmas.Map.Text.{is_eq-slice_cmp}
use Rattle.qs_syntax_resolve.specs.inner.Declarations.{pairs, last_first, place_of, IsLast, IsIndex}

-- the order of the keys: that of their bytes
abbrev key_cmp : Bor (List ℕ) → Bor (List ℕ) → Ordering
key_cmp x y = slice_cmp nat_cmp x.now y.now

pub looked_up : (prefix : List ℕ) (es : List (Bor (List ℕ) × ℕ)) → lookup (is_at (λ k. slice_cmp nat_cmp prefix k.now)) es ≡ place_of es prefix
looked_up prefix [] = refl
looked_up prefix (e ∷ es) = rw (is_eq-slice_cmp prefix e.0.now, looked_up prefix es)

-- ---- what an insertion puts

-- the first of two entries of one key is found
twice : {X : Type 0} (b : Bool) (x y z : X) → cond b x z ≡ cond b x (cond b y z)
twice true x y z = refl
twice false x y z = refl

-- of two keys that aren't both equal to the prefix, either may be looked at first
swapped : {X : Type 0} (a b : Bool) (x y z : X) → (a ≡ true → b ≡ true → ⊥) → cond a x (cond b y z) ≡ cond b y (cond a x z)
swapped true true x y z h = absurd (h refl refl)
swapped true false x y z h = refl
swapped false true x y z h = refl
swapped false false x y z h = refl

same_key : (k n : List ℕ) → slice_cmp nat_cmp k n ≡ Equal → k ≡ n
same_key k n o = (bytes_decides k n).0 (sym (is_eq-slice_cmp k n) ∙ ap is_eq o)

other_key : (p k n : List ℕ) → slice_cmp nat_cmp k n ≡ Greater → bytes_eq p n ≡ true → bytes_eq p k ≡ true → ⊥
other_key p k n o a b =
    let same : k ≡ n = sym ((bytes_decides p k).0 b) ∙ (bytes_decides p n).0 a in
    false≢true (sym (ap is_eq o) ∙ is_eq-slice_cmp k n ∙ (bytes_decides k n).1 same)

put_at : (p : List ℕ) (o : Ordering) (k : Bor (List ℕ)) (v : ℕ) (e : Bor (List ℕ) × ℕ) (es : List (Bor (List ℕ) × ℕ)) → slice_cmp nat_cmp k.now e.0.now ≡ o
    → place_of (insert_entry key_cmp es k v) p ≡ (if bytes_eq p k.now then Some v else place_of es p)
    → place_of (insert_entry key_cmp (e ∷ es) k v) p ≡ (if bytes_eq p k.now then Some v else place_of (e ∷ es) p)
put_at p Less k v e es o more = rw o refl
put_at p Equal k v e es o more =
    rw o (twice (bytes_eq p e.0.now) (Some v) (Some e.1) (place_of es p)
    ∙ ap (λ n. cond (bytes_eq p n) (Some v) (cond (bytes_eq p e.0.now) (Some e.1) (place_of es p))) (sym (same_key k.now e.0.now o)))
put_at p Greater k v e es o more =
    rw o (ap (λ found. cond (bytes_eq p e.0.now) (Some e.1) found) more
    ∙ swapped (bytes_eq p e.0.now) (bytes_eq p k.now) (Some e.1) (Some v) (place_of es p) (other_key p k.now e.0.now o))

pub put : (p : List ℕ) (k : Bor (List ℕ)) (v : ℕ) (es : List (Bor (List ℕ) × ℕ)) → place_of (insert_entry key_cmp es k v) p ≡ (if bytes_eq p k.now then Some v else place_of es p)
put p k v [] = refl
put p k v (e ∷ es) = put_at p (slice_cmp nat_cmp k.now e.0.now) k v e es refl (put p k v es)

-- ---- one declaration more

got_before : {X : Type 0} (xs : List X) (x : X) (i : ℕ) → i < length xs → slice_get (xs ++ x ∷ []) i ≡ slice_get xs i
got_before [] x i h = absurd (omega (arith, h))
got_before (y ∷ ys) x zero h = refl
got_before (y ∷ ys) x (suc i) h = got_before ys x i (omega (arith, h))

got_last : {X : Type 0} (xs : List X) (x : X) → slice_get (xs ++ x ∷ []) (length xs) ≡ Some x
got_last [] x = refl
got_last (y ∷ ys) x = got_last ys x

pub last_first_more : (all : List (Bor (List ℕ) × List ℕ)) (d : Bor (List ℕ) × List ℕ) → last_first (all ++ d ∷ []) ≡ (d.0.now, d.1) ∷ last_first all
last_first_more all d = ap reverse (map-append (λ (e : Bor (List ℕ) × List ℕ). (e.0.now, e.1)) all (d ∷ [])) ∙ reverse-append (pairs all) ((d.0.now, d.1) ∷ [])

longer : {X : Type 0} (all : List X) (d : X) → length (all ++ d ∷ []) ≡ length all + 1
longer all d = length-append all (d ∷ [])

module _ (all : List (Bor (List ℕ) × List ℕ)) (d : Bor (List ℕ) × List ℕ) (p : List ℕ) where
  others : (b : Bool) → bytes_eq p d.0.now ≡ b → b ≡ false → (at : Option ℕ) → IsLast all p at → IsLast (all ++ d ∷ []) p at
  others b e f None h = ap (lookup (bytes_eq p)) (last_first_more all d) ∙ ap (λ c. cond c (Some d.1) (lookup (bytes_eq p) (last_first all))) (e ∙ f) ∙ h
  others b e f (Some at) h =
      let more = longer all d in
      let fits = h.0 in (
        omega (arith, fits, more),
        ap (lookup (bytes_eq p)) (last_first_more all d) ∙ ap (λ c. cond c (Some d.1) (lookup (bytes_eq p) (last_first all))) (e ∙ f) ∙ h.1
            ∙ ap (option_map (λ (x : Bor (List ℕ) × List ℕ). x.1)) (sym (got_before all d at h.0)),
      )

  itself : bytes_eq p d.0.now ≡ true → IsLast (all ++ d ∷ []) p (Some (length all))
  itself e =
      let more = longer all d in (
        omega (arith, more),
        ap (lookup (bytes_eq p)) (last_first_more all d) ∙ ap (λ c. cond c (Some d.1) (lookup (bytes_eq p) (last_first all))) e
            ∙ ap (option_map (λ (x : Bor (List ℕ) × List ℕ). x.1)) (sym (got_last all d)),
      )

  one_more : (b : Bool) (at : Option ℕ) → bytes_eq p d.0.now ≡ b → IsLast all p at → IsLast (all ++ d ∷ []) p (if b then Some (length all) else at)
  one_more true at e h = itself e
  one_more false at e h = others false e refl at h

pub index_more : (all : List (Bor (List ℕ) × List ℕ)) (d : Bor (List ℕ) × List ℕ) (old new : List (Bor (List ℕ) × ℕ)) → IsIndex all old
    → ((p : List ℕ) → place_of new p ≡ (if bytes_eq p d.0.now then Some (length all) else place_of old p)) → IsIndex (all ++ d ∷ []) new
index_more all d old new h put p = subst (IsLast (all ++ d ∷ []) p) (sym (put p)) (one_more all d p (bytes_eq p d.0.now) (place_of old p) refl (h p))
