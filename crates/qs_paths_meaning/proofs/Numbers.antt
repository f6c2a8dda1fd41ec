-- Terms by their numbers, and links between them.
use Rattle.std.proofs.Common.{◌≡◌, ℕ, zero, suc, ◌+◌, ◌<◌, Bool, true, false, ◌||◌, cond, if◌then◌else◌, List, [], ◌∷◌, ◌++◌, length, take, get_or, refl, sym, ◌∙◌, ap, subst, arith, inl, inr}
use Rattle.std.specs.Prelude.{All}
use Rattle.std.specs.List.{list_any}
use Rattle.std.proofs.lemmas.Bool.Decides.{Decides-eqb}
use Rattle.std.proofs.lemmas.List.{append-nil, take_more, get_or_append_left, get_or_default}
use Rattle.std.proofs.lemmas.List.Elements.{All-nil, All-cons, All-head, All-tail, All-append, All-set, All-get_or}
use Rattle.qs_terms.specs.declared.term.Term.{Term}
use Rattle.qs_terms.specs.Bag.{Distinct, with_new}
use Rattle.qs_terms.specs.Term.{same_term}
use Rattle.qs_terms.proofs.SameTerm.{same_term-Decides}
use Rattle.qs_paths_meaning.specs.inner.Found.{with_all}
use Rattle.qs_paths_meaning.specs.inner.Links.{IsAt, named, AreBelow, same_number, with_numbers, row_of, leads_to, put_at}
use Rattle.qs_paths_meaning.proofs.Finds.{map-append}
use Rattle.qs_paths_meaning.proofs.Members.{Mem, mem_in, bool_same, not_both, false_from}

mem_get : (terms : List Term) (n : ℕ) (x : Term) → IsAt terms n x → Mem x terms
mem_get [] n x h = let lt : n < 0 = h.0 in absurd (omega (arith, lt))
mem_get (t ∷ ts) zero x h = inl (sym h.1)
mem_get (t ∷ ts) (suc n) x h = inr (mem_get ts n x (let lt : suc n < suc (length ts) = h.0 in omega (arith, lt), h.1))

-- a term that isn't in the list has no place
not_at : (t : Term) (ts : List Term) (n : ℕ) (x : Term) → list_any (same_term t) ts ≡ false → IsAt ts n x → t ≡ x → ⊥
not_at t ts n x f h e = not_both (list_any (same_term t) ts) (mem_in same_term same_term-Decides t ts (subst (λ z. Mem z ts) (sym e) (mem_get ts n x h))) f

pub one_place : (terms : List Term) → Distinct same_term terms → (n m : ℕ) (x y : Term) → IsAt terms n x → IsAt terms m y → x ≡ y → n ≡ m
one_place [] d n m x y h k e = let lt : n < 0 = h.0 in absurd (omega (arith, lt))
one_place (t ∷ ts) d zero zero x y h k e = refl
one_place (t ∷ ts) d zero (suc m) x y h k e = absurd (not_at t ts m y d.0 (let lt : suc m < suc (length ts) = k.0 in omega (arith, lt), k.1) (h.1 ∙ e))
one_place (t ∷ ts) d (suc n) zero x y h k e = absurd (not_at t ts n x d.0 (let lt : suc n < suc (length ts) = h.0 in omega (arith, lt), h.1) (k.1 ∙ sym e))
one_place (t ∷ ts) d (suc n) (suc m) x y h k e =
    ap suc (one_place ts d.1 n m x y (let lt : suc n < suc (length ts) = h.0 in omega (arith, lt), h.1) (let lt : suc m < suc (length ts) = k.0 in omega (arith, lt), k.1) e)

same_place : (terms : List Term) (n m : ℕ) (x y : Term) → IsAt terms n x → IsAt terms m y → n ≡ m → x ≡ y
same_place terms n m x y h k e = sym h.1 ∙ (get_or_default terms n x y h.0 ∙ (ap (λ i. get_or terms i y) e ∙ k.1))

pub apart : (terms : List Term) → Distinct same_term terms → (n m : ℕ) (x y : Term) → IsAt terms n x → IsAt terms m y → same_term x y ≡ same_number n m
apart terms d n m x y h k =
    bool_same (same_term x y) (same_number n m)
    (λ t. (Decides-eqb n m).1 (one_place terms d n m x y h k ((same_term-Decides x y).0 t)))
    (λ t. (same_term-Decides x y).1 (same_place terms n m x y h k ((Decides-eqb n m).0 t)))

pub get_at : (terms : List Term) (n : ℕ) (d : Term) → n < length terms → IsAt terms n (get_or terms n d)
get_at terms n d lt = (lt, get_or_default terms n (get_or terms n d) d lt)

-- ---- terms of numbers

pub named_default : (d e : Term) (terms : List Term) (ns : List ℕ) → AreBelow (length terms) ns → named d terms ns ≡ named e terms ns
named_default d e terms [] h = refl
named_default d e terms (n ∷ ns) h =
    ap (λ x. x ∷ named d terms ns) (get_or_default terms n d e (All-head (λ k. k < length terms) n ns h))
    ∙ ap (λ l. get_or terms n e ∷ l) (named_default d e terms ns (All-tail (λ k. k < length terms) n ns h))

pub named_more : (d : Term) (terms more : List Term) (ns : List ℕ) → AreBelow (length terms) ns → named d (terms ++ more) ns ≡ named d terms ns
named_more d terms more [] h = refl
named_more d terms more (n ∷ ns) h =
    ap (λ x. x ∷ named d (terms ++ more) ns) (get_or_append_left terms more d n (All-head (λ k. k < length terms) n ns h))
    ∙ ap (λ l. get_or terms n d ∷ l) (named_more d terms more ns (All-tail (λ k. k < length terms) n ns h))

any_named : (terms : List Term) → Distinct same_term terms → (n : ℕ) (x d : Term) → IsAt terms n x → (ns : List ℕ) → AreBelow (length terms) ns → list_any (same_term x) (named d terms ns) ≡ list_any (same_number n) ns
any_named terms u n x d h [] b = refl
any_named terms u n x d h (m ∷ ns) b =
    ap (λ c. c || list_any (same_term x) (named d terms ns)) (apart terms u n m x (get_or terms m d) h (get_at terms m d (All-head (λ k. k < length terms) m ns b)))
    ∙ ap (λ c. same_number n m || c) (any_named terms u n x d h ns (All-tail (λ k. k < length terms) m ns b))

pub named_new : (terms : List Term) → Distinct same_term terms → (n : ℕ) (x d : Term) → IsAt terms n x → (ns : List ℕ) → AreBelow (length terms) ns → named d terms (with_new same_number ns n) ≡ with_new same_term (named d terms ns) x
named_new terms u n x d h ns b = by (list_any (same_number n) ns) (list_any (same_term x) (named d terms ns)) (any_named terms u n x d h ns b)
  where
    by : (p q : Bool) → q ≡ p → named d terms (cond p ns (ns ++ n ∷ [])) ≡ cond q (named d terms ns) (named d terms ns ++ x ∷ [])
    by true true e = refl
    by true false e = let f : false ≡ true = e in cc
    by false true e = let f : true ≡ false = e in cc
    by false false e = map-append (λ (k : ℕ). get_or terms k d) ns (n ∷ []) ∙ ap (λ z. named d terms ns ++ z ∷ []) (get_or_default terms n d x h.0 ∙ h.1)

pub below_new : (count n : ℕ) (ns : List ℕ) → n < count → AreBelow count ns → AreBelow count (with_new same_number ns n)
below_new count n ns lt b = by (list_any (same_number n) ns)
  where
    by : (p : Bool) → AreBelow count (cond p ns (ns ++ n ∷ []))
    by true = b
    by false = All-append (λ k. k < count) ns (n ∷ []) b (All-cons (λ k. k < count) n [] lt (All-nil (λ k. k < count)))

pub named_all : (terms : List Term) → Distinct same_term terms → (d : Term) (ns ms : List ℕ) → AreBelow (length terms) ns → AreBelow (length terms) ms → named d terms (with_numbers ns ms) ≡ with_all (named d terms ns) (named d terms ms)
named_all terms u d ns [] b c = refl
named_all terms u d ns (m ∷ ms) b c =
    let lt : m < length terms = All-head (λ k. k < length terms) m ms c in
    named_all terms u d (with_new same_number ns m) ms (below_new (length terms) m ns lt b) (All-tail (λ k. k < length terms) m ms c)
    ∙ ap (λ l. with_all l (named d terms ms)) (named_new terms u m (get_or terms m d) d (get_at terms m d lt) ns b)

-- one number more at the end
numbers_last : (ns ms : List ℕ) (m : ℕ) → with_numbers ns (ms ++ m ∷ []) ≡ with_new same_number (with_numbers ns ms) m
numbers_last ns [] m = refl
numbers_last ns (k ∷ ms) m = numbers_last (with_new same_number ns k) ms m

pub numbers_more : (ns ms : List ℕ) (i d : ℕ) → i < length ms → with_numbers ns (take (i + 1) ms) ≡ with_new same_number (with_numbers ns (take i ms)) (get_or ms i d)
numbers_more ns ms i d lt = ap (with_numbers ns) (take_more ms i d lt) ∙ numbers_last ns (take i ms) (get_or ms i d)

-- ---- rows

pub row_below : (count : ℕ) (terms : List Term) (rows : List (List ℕ)) (x : Term) → All (AreBelow count) rows → AreBelow count (row_of terms rows x)
row_below count [] rows x h = All-nil (λ k. k < count)
row_below count (t ∷ ts) [] x h = All-nil (λ k. k < count)
row_below count (t ∷ ts) (r ∷ rows) x h = by (same_term x t) (row_below count ts rows x (All-tail (AreBelow count) r rows h))
  where
    by : (b : Bool) → AreBelow count (row_of ts rows x) → AreBelow count (cond b r (row_of ts rows x))
    by true k = All-head (AreBelow count) r rows h
    by false k = k

pub row_at : (terms : List Term) (rows : List (List ℕ)) (n : ℕ) (x : Term) → Distinct same_term terms → length rows ≡ length terms → IsAt terms n x → row_of terms rows x ≡ get_or rows n []
row_at [] rows n x d l h = let lt : n < 0 = h.0 in absurd (omega (arith, lt))
row_at (t ∷ ts) [] n x d l h = let e : 0 ≡ suc (length ts) = l in absurd (omega (arith, e))
row_at (t ∷ ts) (r ∷ rows) zero x d l h = let e : same_term x t ≡ true = (same_term-Decides x t).1 (sym h.1) in rw e refl
row_at (t ∷ ts) (r ∷ rows) (suc n) x d l h =
    let k : IsAt ts n x = (let lt : suc n < suc (length ts) = h.0 in omega (arith, lt), h.1) in
    let e : same_term x t ≡ false = false_from (same_term x t) (λ s. not_at t ts n x d.0 k (sym ((same_term-Decides x t).0 s))) in
    rw e (row_at ts rows n x d.1 (let s : suc (length rows) ≡ suc (length ts) = l in omega (arith, s)) k)

-- an empty row at the end
row_more : (terms : List Term) (rows : List (List ℕ)) (x y : Term) → length rows ≡ length terms → row_of (terms ++ x ∷ []) (rows ++ [] ∷ []) y ≡ row_of terms rows y
row_more [] [] x y l = by (same_term y x)
  where
    by : (b : Bool) → cond b [] (row_of [] [] y) ≡ []
    by true = refl
    by false = refl
row_more [] (r ∷ rows) x y l = let e : suc (length rows) ≡ 0 = l in absurd (omega (arith, e))
row_more (t ∷ ts) [] x y l = let e : 0 ≡ suc (length ts) = l in absurd (omega (arith, e))
row_more (t ∷ ts) (r ∷ rows) x y l =
    ap (λ z. cond (same_term y t) r z) (row_more ts rows x y (let s : suc (length rows) ≡ suc (length ts) = l in omega (arith, s)))

pub leads_more : (terms : List Term) (rows : List (List ℕ)) (x y : Term) → length rows ≡ length terms → All (AreBelow (length terms)) rows → leads_to (terms ++ x ∷ []) (rows ++ [] ∷ []) y ≡ leads_to terms rows y
leads_more terms rows x y l b =
    ap (named y (terms ++ x ∷ [])) (row_more terms rows x y l) ∙ named_more y terms (x ∷ []) (row_of terms rows y) (row_below (length terms) terms rows y b)

-- a number at the end of a row
row_put : (terms : List Term) (rows : List (List ℕ)) (n m : ℕ) (x y : Term) → Distinct same_term terms → length rows ≡ length terms → IsAt terms n x → row_of terms (put_at rows n m) y ≡ row_of terms rows y ++ (if same_term y x then m ∷ [] else [])
row_put [] rows n m x y d l h = let lt : n < 0 = h.0 in absurd (omega (arith, lt))
row_put (t ∷ ts) [] n m x y d l h = let e : 0 ≡ suc (length ts) = l in absurd (omega (arith, e))
row_put (t ∷ ts) (r ∷ rows) zero m x y d l h = subst (λ z. row_of (t ∷ ts) (put_at (r ∷ rows) zero m) y ≡ row_of (t ∷ ts) (r ∷ rows) y ++ (if same_term y z then m ∷ [] else [])) h.1 (by (same_term y t))
  where
    by : (b : Bool) → cond b (r ++ m ∷ []) (row_of ts rows y) ≡ cond b r (row_of ts rows y) ++ (if b then m ∷ [] else [])
    by true = refl
    by false = sym (append-nil (row_of ts rows y))
row_put (t ∷ ts) (r ∷ rows) (suc n) m x y d l h =
    let k : IsAt ts n x = (let lt : suc n < suc (length ts) = h.0 in omega (arith, lt), h.1) in
    by (same_term y t) refl
    (λ s. false_from (same_term y x) (λ u. not_at t ts n x d.0 k (sym ((same_term-Decides y t).0 s) ∙ (same_term-Decides y x).0 u)))
    (row_put ts rows n m x y d.1 (let s : suc (length rows) ≡ suc (length ts) = l in omega (arith, s)) k)
  where
    by : (b : Bool) → same_term y t ≡ b → (same_term y t ≡ true → same_term y x ≡ false) → row_of ts (put_at rows n m) y ≡ row_of ts rows y ++ (if same_term y x then m ∷ [] else [])
        → cond b r (row_of ts (put_at rows n m) y) ≡ cond b r (row_of ts rows y) ++ (if same_term y x then m ∷ [] else [])
    by true e other k = rw (other e) (sym (append-nil r))
    by false e other k = k

pub leads_put : (terms : List Term) (rows : List (List ℕ)) (n m : ℕ) (x z y : Term) → Distinct same_term terms → length rows ≡ length terms → IsAt terms n x → IsAt terms m z → leads_to terms (put_at rows n m) y ≡ leads_to terms rows y ++ (if same_term y x then z ∷ [] else [])
leads_put terms rows n m x z y d l h k =
    ap (named y terms) (row_put terms rows n m x y d l h)
    ∙ (map-append (λ (i : ℕ). get_or terms i y) (row_of terms rows y) (if same_term y x then m ∷ [] else [])
    ∙ ap (λ w. leads_to terms rows y ++ w) (by (same_term y x)))
  where
    by : (b : Bool) → named y terms (cond b (m ∷ []) []) ≡ cond b (z ∷ []) []
    by true = ap (λ w. w ∷ []) (get_or_default terms m y z k.0 ∙ k.1)
    by false = refl

pub below_put : (count : ℕ) (rows : List (List ℕ)) (n m : ℕ) → n < length rows → m < count → All (AreBelow count) rows → All (AreBelow count) (put_at rows n m)
below_put count rows n m lt k h =
    All-set (AreBelow count) rows n (get_or rows n [] ++ m ∷ [])
    (All-append (λ i. i < count) (get_or rows n []) (m ∷ []) (All-get_or (AreBelow count) rows n [] lt h) (All-cons (λ i. i < count) m [] k (All-nil (λ i. i < count)))) h
