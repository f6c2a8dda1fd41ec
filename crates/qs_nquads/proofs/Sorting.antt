-- Sorted lines, each once, are the lines of the definition.
use Rattle.std.proofs.Common.{◌≡◌, ℕ, zero, suc, ◌<◌, ◌⊎◌, inl, inr, true, List, [], ◌∷◌, ◌++◌, length, map, refl, sym, ap, ap₂, ◌∙◌, subst, arith, Ordering, true≢false}
use Rattle.std.specs.declared.cmp.Ordering.TheVariants.{Less, Equal, Greater}
use Rattle.std.specs.Prelude.{nat_eq}
use Rattle.std.specs.Ordering.{nat_cmp, match_ordering, is_eq, ordering_reverse}
use Rattle.std.specs.Cmp.{IsTotalOrder}
use Rattle.std.specs.Cmp.Lexicographic.{slice_cmp, pointwise, nat_list_eq_equiv, texts_ties}
use Rattle.std.specs.List.{Contains, dedup, AllByRecursion, flat_map}
use Rattle.std.specs.List.Retain.{DiffersFromLast, IsFiltered}
use Rattle.std.specs.List.Sorted.{IsStrictlySortedBy, IsSorted, IsPermutation}
use Rattle.std.proofs.lemmas.Cmp.{nat_list_cmp_total}
use Rattle.std.proofs.lemmas.List.Filters.{dedup_is}
use Rattle.std.proofs.lemmas.List.Kept.{Contains-dedup, Contains-from_dedup, IsStrictlySortedBy-dedup}
use Rattle.std.proofs.lemmas.List.Sorted.{Contains-permutation, IsPermutation-sym}
use Rattle.std.proofs.lemmas.Map.Text.{is_eq-slice_cmp}
use Rattle.std.proofs.lemmas.Slice.Eq.{bytes_eq-Decides}
use Rattle.qs_terms.specs.Statement.{Statement}
use Rattle.qs_nquads.specs.Written.{line, put_in, ordered, nquads_of}
use Rattle.qs_nquads.specs.inner.Joined.{joined}

abbrev R : List ℕ → List ℕ → Ordering
R = slice_cmp nat_cmp

abbrev o : IsTotalOrder R
o = nat_list_cmp_total

-- ---- elements

abbrev pub In : {X : Type 0} → X → List X → Type 0
In z [] = ⊥
In z (x ∷ xs) = (z ≡ x) ⊎ In z xs

in_from : (xs : List (List ℕ)) (z : List ℕ) → Contains xs z → In z xs
in_from [] z (k, h, e) = absurd (omega arith)
in_from (x ∷ xs) z (zero, h, e) = inl (sym e)
in_from (x ∷ xs) z (suc k, h, e) = inr (in_from xs z (k, omega arith, e))

in_to : (xs : List (List ℕ)) (z : List ℕ) → In z xs → Contains xs z
in_to [] z h = absurd h
in_to (x ∷ xs) z h = elim h [ inl e ↦ (0, omega arith, sym e) | inr i ↦ (let c : Contains xs z = in_to xs z i in (suc c.0, (let l : c.0 < length xs = c.1 in omega arith), c.2)) ]

-- ---- the order of lines

ordered_apart : (x y : List ℕ) → R x y ≡ Less → R y x ≡ Less → ⊥
ordered_apart x y a b = let e : R x y ≡ ordering_reverse (R y x) = o.antisymm x y in let f : Less ≡ ordering_reverse Less = sym a ∙ (e ∙ ap ordering_reverse b) in cc

not_below_itself : (x : List ℕ) → R x x ≡ Less → ⊥
not_below_itself x h = ordered_apart x x h h

same_text : (x y : List ℕ) → R x y ≡ Equal → x ≡ y
same_text x y h = (bytes_eq-Decides x y).0 (sym (is_eq-slice_cmp x y) ∙ ap is_eq h)

back : (x y : List ℕ) → R x y ≡ Greater → R y x ≡ Less
back x y h = o.antisymm y x ∙ ap ordering_reverse h

all_in : (x z : List ℕ) (xs : List (List ℕ)) → AllByRecursion (λ y. R x y ≡ Less) xs → In z xs → R x z ≡ Less
all_in x z [] h i = absurd i
all_in x z (y ∷ xs) h i = elim i [ inl e ↦ subst (λ w. R x w ≡ Less) (sym e) h.0 | inr j ↦ all_in x z xs h.1 j ]

-- two strictly ascending lists with the same elements are one
unique : (xs ys : List (List ℕ)) → IsStrictlySortedBy R xs → IsStrictlySortedBy R ys → ((z : List ℕ) → In z xs → In z ys) → ((z : List ℕ) → In z ys → In z xs) → xs ≡ ys
unfolding IsStrictlySortedBy
unique [] [] a b f g = refl
unique [] (y ∷ ys) a b f g = absurd (g y (inl refl))
unique (x ∷ xs) [] a b f g = absurd (f x (inl refl))
unique (x ∷ xs) (y ∷ ys) a b f g =
    let head : x ≡ y = elim (f x (inl refl)) [
      | inl e ↦ e
      | inr i ↦ (elim (g y (inl refl)) [ inl e ↦ sym e | inr j ↦ absurd (ordered_apart x y (all_in x y xs a.0 j) (all_in y x ys b.0 i)) ])
    ] in
    let forth : (z : List ℕ) → In z xs → In z ys = λ z i. elim (f z (inr i)) [
      | inl e ↦ absurd (not_below_itself x (subst (λ w. R x w ≡ Less) (e ∙ sym head) (all_in x z xs a.0 i)))
      | inr j ↦ j
    ] in
    let again : (z : List ℕ) → In z ys → In z xs = λ z i. elim (g z (inr i)) [
      | inl e ↦ absurd (not_below_itself y (subst (λ w. R y w ≡ Less) (e ∙ head) (all_in y z ys b.0 i)))
      | inr j ↦ j
    ] in
    ap₂ (λ (u : List ℕ) (v : List (List ℕ)). u ∷ v) head (unique xs ys a.1 b.1 forth again)

-- ---- the definition's lines ascend, and are those of the quads

below_all : (x y : List ℕ) (ys : List (List ℕ)) → R x y ≡ Less → AllByRecursion (λ z. R y z ≡ Less) ys → AllByRecursion (λ z. R x z ≡ Less) ys
below_all x y [] h a = a
below_all x y (z ∷ ys) h a = (o.trans x y z h a.0, below_all x y ys h a.1)

put_at : (r : Ordering) (x : List ℕ) (q s : Statement) (rs more : List Statement) → R x (line q) ≡ Less → AllByRecursion (λ z. R x z ≡ Less) (map line (s ∷ rs)) → AllByRecursion (λ z. R x z ≡ Less) (map line more)
    → AllByRecursion (λ z. R x z ≡ Less) (map line (match_ordering r (q ∷ s ∷ rs) (s ∷ rs) (s ∷ more)))
put_at Less x q s rs more h a b = (h, a)
put_at Equal x q s rs more h a b = a
put_at Greater x q s rs more h a b = (a.0, b)

put_above : (x : List ℕ) (q : Statement) (rs : List Statement) → R x (line q) ≡ Less → AllByRecursion (λ z. R x z ≡ Less) (map line rs) → AllByRecursion (λ z. R x z ≡ Less) (map line (put_in q rs))
unfolding put_in
put_above x q [] h a = (h, a)
put_above x q (s ∷ rs) h a = put_at (R (line q) (line s)) x q s rs (put_in q rs) h a (put_above x q rs h a.1)

put_sorted_at : (r : Ordering) (q s : Statement) (rs : List Statement) → R (line q) (line s) ≡ r → IsStrictlySortedBy R (map line (s ∷ rs)) → IsStrictlySortedBy R (map line (put_in q rs))
    → IsStrictlySortedBy R (map line (match_ordering r (q ∷ s ∷ rs) (s ∷ rs) (s ∷ put_in q rs)))
unfolding IsStrictlySortedBy
put_sorted_at Less q s rs e h n = ((e, below_all (line q) (line s) (map line rs) e h.0), h)
put_sorted_at Equal q s rs e h n = h
put_sorted_at Greater q s rs e h n = (put_above (line s) q rs (back (line q) (line s) e) h.0, n)

put_sorted : (q : Statement) (rs : List Statement) → IsStrictlySortedBy R (map line rs) → IsStrictlySortedBy R (map line (put_in q rs))
unfolding put_in IsStrictlySortedBy
put_sorted q [] h = (tt, tt)
put_sorted q (s ∷ rs) h = put_sorted_at (R (line q) (line s)) q s rs refl h (put_sorted q rs h.1)

pub lines_ascend : (qs : List Statement) → IsStrictlySortedBy R (map line (ordered qs))
unfolding ordered IsStrictlySortedBy
lines_ascend [] = tt
lines_ascend (q ∷ qs) = put_sorted q (ordered qs) (lines_ascend qs)

put_in_at : (r : Ordering) (q s : Statement) (rs more : List Statement) (z : List ℕ) → R (line q) (line s) ≡ r → (((z ≡ line q) ⊎ In z (map line rs)) → In z (map line more))
    → ((z ≡ line q) ⊎ In z (map line (s ∷ rs))) → In z (map line (match_ordering r (q ∷ s ∷ rs) (s ∷ rs) (s ∷ more)))
put_in_at Less q s rs more z e f h = h
put_in_at Equal q s rs more z e f h = elim h [ inl a ↦ inl (a ∙ same_text (line q) (line s) e) | inr i ↦ i ]
put_in_at Greater q s rs more z e f h = elim h [ inl a ↦ inr (f (inl a)) | inr i ↦ (elim i [ inl a ↦ inl a | inr j ↦ inr (f (inr j)) ]) ]

put_has : (q : Statement) (rs : List Statement) (z : List ℕ) → ((z ≡ line q) ⊎ In z (map line rs)) → In z (map line (put_in q rs))
unfolding put_in
put_has q [] z h = h
put_has q (s ∷ rs) z h = put_in_at (R (line q) (line s)) q s rs (put_in q rs) z refl (put_has q rs z) h

put_from_at : (r : Ordering) (q s : Statement) (rs more : List Statement) (z : List ℕ) → (In z (map line more) → (z ≡ line q) ⊎ In z (map line rs))
    → In z (map line (match_ordering r (q ∷ s ∷ rs) (s ∷ rs) (s ∷ more))) → (z ≡ line q) ⊎ In z (map line (s ∷ rs))
put_from_at Less q s rs more z f h = h
put_from_at Equal q s rs more z f h = inr h
put_from_at Greater q s rs more z f h = elim h [ inl a ↦ inr (inl a) | inr i ↦ (elim (f i) [ inl a ↦ inl a | inr j ↦ inr (inr j) ]) ]

put_from : (q : Statement) (rs : List Statement) (z : List ℕ) → In z (map line (put_in q rs)) → (z ≡ line q) ⊎ In z (map line rs)
unfolding put_in
put_from q [] z h = h
put_from q (s ∷ rs) z h = put_from_at (R (line q) (line s)) q s rs (put_in q rs) z (put_from q rs z) h

pub has_lines : (qs : List Statement) (z : List ℕ) → In z (map line qs) → In z (map line (ordered qs))
unfolding ordered
has_lines [] z h = h
has_lines (q ∷ qs) z h = put_has q (ordered qs) z (elim h as (λ _. (z ≡ line q) ⊎ In z (map line (ordered qs))) [ inl a ↦ inl a | inr i ↦ inr (has_lines qs z i) ])

pub from_lines : (qs : List Statement) (z : List ℕ) → In z (map line (ordered qs)) → In z (map line qs)
unfolding ordered
from_lines [] z h = h
from_lines (q ∷ qs) z h = elim (put_from q (ordered qs) z h) as (λ _. In z (map line (q ∷ qs))) [ inl a ↦ inl a | inr i ↦ inr (from_lines qs z i) ]

-- ---- what a sort and `dedup` leave

pub sorted_lines : (qs : List Statement) (ls ds : List (List ℕ)) → IsPermutation (map line qs) ls → IsSorted R ls → IsFiltered (DiffersFromLast (pointwise nat_eq)) [] ls ds → ds ≡ map line (ordered qs)
sorted_lines qs ls ds p s f =
    let e : ds ≡ dedup (pointwise nat_eq) ls = dedup_is (pointwise nat_eq) ls ds f in
    let ascends : IsStrictlySortedBy R (dedup (pointwise nat_eq) ls) = IsStrictlySortedBy-dedup o texts_ties ls s in
    e ∙ unique (dedup (pointwise nat_eq) ls) (map line (ordered qs)) ascends (lines_ascend qs)
    (λ z i. has_lines qs z (in_from (map line qs) z (Contains-permutation ls (map line qs) z (IsPermutation-sym (map line qs) ls p) (Contains-from_dedup (pointwise nat_eq) ls z (in_to (dedup (pointwise nat_eq) ls) z i)))))
    (λ z i. in_from (dedup (pointwise nat_eq) ls) z (Contains-dedup nat_list_eq_equiv (λ x y h. pointwise_same x y h) ls z (Contains-permutation (map line qs) ls z p (in_to (map line qs) z (from_lines qs z i)))))
  where
    pointwise_same : (x y : List ℕ) → pointwise nat_eq x y ≡ true → x ≡ y
    pointwise_same x y h = same_text x y (tied (R x y) (sym (texts_ties x y) ∙ h)) where
      tied : (r : Ordering) → is_eq r ≡ true → r ≡ Equal
      tied Less e = absurd (true≢false (sym e))
      tied Equal e = refl
      tied Greater e = absurd (true≢false (sym e))

pub joined_lines : (qs : List Statement) → joined (map line qs) ≡ flat_map line qs
joined_lines [] = refl
joined_lines (q ∷ qs) = ap (λ z. line q ++ z) (joined_lines qs)

pub written : (qs : List Statement) → joined (map line (ordered qs)) ≡ nquads_of qs
unfolding nquads_of
written qs = joined_lines (ordered qs)
