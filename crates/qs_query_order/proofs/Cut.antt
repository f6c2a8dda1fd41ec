-- The least of values that are seen one by one, by any strict weak order.
use Rattle.std.proofs.Common.{◌≡◌, ℕ, ◌+◌, ◌<◌, ◌≤◌, Bool, true, false, not, cond, List, [], ◌∷◌, ◌++◌, append_assoc, length, take, drop, get_or, ◌⊎◌, suc, refl, sym, ◌∙◌, ap, subst, arith, inl, inr}
use Rattle.std.proofs.lemmas.Bool.{cases_lt}
use Rattle.std.proofs.lemmas.List.{append-nil, length-append, length-take-le, get_or-take, get_or_default, get_or_append_left, get_or-append-add, drop_all, take-append-drop, take_all, take_at}
use Rattle.std.proofs.lemmas.List.Elements.{All-nil, All-cons, All-head, All-tail, All-append}
use Rattle.std.proofs.lemmas.List.Sums.{sum_by-append, count_by-le-length}
use Rattle.std.proofs.lemmas.List.Sorted.{sorted_far, sum_by-IsPermutation, IsPermutation-sym, IsPermutation-trans, IsPermutation-append_left, IsPermutation-append_right, IsPermutation-append_comm}
use Rattle.std.specs.Cmp.{IsStrictWeakOrder}
use Rattle.std.specs.List.{All, count_by}
use Rattle.std.specs.List.Sorted.{IsPermutation, IsSortedBy}
use Rattle.qs_query_order.proofs.Whole.{completed}

-- ---- counts

module _ {X : Type 0} (p : X → Bool) where
  count-append : (xs ys : List X) → count_by p (xs ++ ys) ≡ count_by p xs + count_by p ys
  count-append xs ys = sum_by-append (λ x. cond (p x) 1 0) xs ys

  pub count_one : (x : X) (xs : List X) (b : Bool) → p x ≡ b → count_by p (x ∷ xs) ≡ (0 + cond b 1 0) + count_by p xs
  count_one x xs b e = count-append (x ∷ []) xs ∙ ap (λ c. (0 + cond c 1 0) + count_by p xs) e

  count_all : (xs : List X) → All (λ a. p a ≡ true) xs → count_by p xs ≡ length xs
  count_all [] h = refl
  count_all (x ∷ xs) h =
      let e : count_by p (x ∷ xs) ≡ (0 + 1) + count_by p xs = count_one x xs true (All-head (λ a. p a ≡ true) x xs h) in
      let k : count_by p xs ≡ length xs = count_all xs (All-tail (λ a. p a ≡ true) x xs h) in omega (arith, e, k)

  count_none : (xs : List X) → All (λ a. p a ≡ false) xs → count_by p xs ≡ 0
  count_none [] h = refl
  count_none (x ∷ xs) h =
      let e : count_by p (x ∷ xs) ≡ (0 + 0) + count_by p xs = count_one x xs false (All-head (λ a. p a ≡ false) x xs h) in
      let k : count_by p xs ≡ 0 = count_none xs (All-tail (λ a. p a ≡ false) x xs h) in omega (arith, e, k)

  all_counted : (xs : List X) → length xs ≤ count_by p xs → All (λ a. p a ≡ true) xs
  all_counted [] h = All-nil (λ a. p a ≡ true)
  all_counted (x ∷ xs) h = by (p x) refl (all_counted xs)
    where
      by : (b : Bool) → p x ≡ b → (length xs ≤ count_by p xs → All (λ a. p a ≡ true) xs) → All (λ a. p a ≡ true) (x ∷ xs)
      by true e k =
          let c : count_by p (x ∷ xs) ≡ (0 + 1) + count_by p xs = count_one x xs true e in
          let w : suc (length xs) ≤ count_by p (x ∷ xs) = h in All-cons (λ a. p a ≡ true) x xs e (k (omega (arith, w, c)))
      by false e k =
          let c : count_by p (x ∷ xs) ≡ (0 + 0) + count_by p xs = count_one x xs false e in
          let w : suc (length xs) ≤ count_by p (x ∷ xs) = h in
          let le : count_by p xs ≤ length xs = count_by-le-length p xs in absurd (omega (arith, w, le, c))

  count-same : (xs ys : List X) → IsPermutation xs ys → count_by p ys ≡ count_by p xs
  count-same xs ys h = sum_by-IsPermutation (λ x. cond (p x) 1 0) xs ys h

not_false : (b : Bool) → b ≡ false → not b ≡ true
not_false b e = ap not e

not_true : (b : Bool) → b ≡ true → not b ≡ false
not_true b e = ap not e

pub false_of : (b : Bool) → not b ≡ true → b ≡ false
false_of true h = let f : false ≡ true = h in cc
false_of false h = refl

-- ---- what is kept

module _ {X : Type 0} (lower : X → X → Bool) (n : ℕ) where
  -- n of those kept are not above b
  abbrev Covers : List X → X → Type 0
  Covers kept b = n ≤ count_by (λ a. not (lower b a)) kept

  abbrev Kept : List X → List X → Type 0
  Kept seen kept = (others : List X) × IsPermutation seen (kept ++ others) × All (Covers kept) others

  -- one more
  pub kept_more : (seen kept : List X) (k : X) → Kept seen kept → Kept (seen ++ k ∷ []) (kept ++ k ∷ [])
  kept_more seen kept k h =
      let others = h.0 in (
        others,
        IsPermutation-trans (seen ++ k ∷ []) ((kept ++ others) ++ k ∷ []) ((kept ++ k ∷ []) ++ others) (IsPermutation-append_left (k ∷ []) seen (kept ++ others) h.1)
            (subst (λ l. IsPermutation l ((kept ++ k ∷ []) ++ others)) (sym (append_assoc kept others (k ∷ [])))
            (subst (λ l. IsPermutation (kept ++ (others ++ k ∷ [])) l) (sym (append_assoc kept (k ∷ []) others)) (IsPermutation-append_right kept (others ++ k ∷ []) (k ∷ [] ++ others) (IsPermutation-append_comm others (k ∷ []))))),
        λ j d lt. more_covers (get_or others j d) (h.2 j d lt),
      )
    where
      more_covers : (b : X) → Covers kept b → Covers (kept ++ k ∷ []) b
      more_covers b c =
          let e : count_by (λ a. not (lower b a)) (kept ++ k ∷ []) ≡ count_by (λ a. not (lower b a)) kept + count_by (λ a. not (lower b a)) (k ∷ []) = count-append (λ a. not (lower b a)) kept (k ∷ []) in omega (arith, e, c)

  -- one that is passed over
  pub kept_passed : (seen kept : List X) (k : X) → Covers kept k → Kept seen kept → Kept (seen ++ k ∷ []) kept
  kept_passed seen kept k c h =
      let others = h.0 in (
        others ++ k ∷ [],
        subst (λ l. IsPermutation (seen ++ k ∷ []) l) (append_assoc kept others (k ∷ [])) (IsPermutation-append_left (k ∷ []) seen (kept ++ others) h.1),
        All-append (Covers kept) others (k ∷ []) h.2 (All-cons (Covers kept) k [] c (All-nil (Covers kept))),
      )

  module _ (o : IsStrictWeakOrder lower) where
    -- those in front cover what isn't below one of them
    front_covers : (front : List X) (b : X) → n ≤ length front → All (λ a. lower b a ≡ false) front → Covers front b
    front_covers front b l h =
        let e : count_by (λ a. not (lower b a)) front ≡ length front = count_all (λ a. not (lower b a)) front (λ j d lt. not_false _ (h j d lt)) in omega (arith, e, l)

    still_covers : (front back kept : List X) (x b : X) → n ≤ length front → IsPermutation kept (front ++ x ∷ back) → All (λ a. lower x a ≡ false) front → All (λ y. lower y x ≡ false) back → Covers kept b → Covers front b
    still_covers front back kept x b l p up down c = by (lower b x) refl
      where
        above : (y : X) → lower b x ≡ true → lower y x ≡ false → (q : Bool) → lower b y ≡ q → not q ≡ false
        above y e k true f = refl
        above y e k false f = let w : lower b x ≡ false = o.chain b y x f k in let g : true ≡ false = sym e ∙ w in cc

        by : (q : Bool) → lower b x ≡ q → Covers front b
        by false e = front_covers front b l (λ j d lt. o.chain b x (get_or front j d) e (up j d lt))
        by true e =
            let test : X → Bool = λ a. not (lower b a) in
            let same : count_by test (front ++ x ∷ back) ≡ count_by test kept = count-same test kept (front ++ x ∷ back) p in
            let both : count_by test (front ++ x ∷ back) ≡ count_by test front + count_by test (x ∷ back) = count-append test front (x ∷ back) in
            let none : count_by test (x ∷ back) ≡ 0 =
            count_none test (x ∷ back) (All-cons (λ a. test a ≡ false) x back (not_true _ e) (λ j d lt. above (get_or back j d) e (down j d lt) (lower b (get_or back j d)) refl)) in
            omega (arith, same, both, none, c)

    -- none in front is above what stands after it in order, and none after that is below it
    up_front : (front back : List X) (x : X) → IsSortedBy lower (front ++ x ∷ back) → All (λ a. lower x a ≡ false) front
    up_front front back x up j d lt =
        subst (λ a. lower x a ≡ false) (get_or_append_left front (x ∷ back) d j lt)
        (subst (λ z. lower z (get_or (front ++ x ∷ back) j d) ≡ false) (get_or-append-add front (x ∷ back) 0 d)
        (sorted_far lower o (front ++ x ∷ back) up j (length front + 0) d (omega (arith, lt)) (let l : length (front ++ x ∷ back) ≡ length front + length (x ∷ back) = length-append front (x ∷ back) in omega (arith, l))))

    up_back : (front back : List X) (x : X) → IsSortedBy lower (front ++ x ∷ back) → All (λ y. lower y x ≡ false) back
    up_back front back x up j d lt =
        subst (λ z. lower z x ≡ false) (get_or-append-add front (x ∷ back) (suc j) d)
        (subst (λ a. lower (get_or (front ++ x ∷ back) (length front + suc j) d) a ≡ false) (get_or-append-add front (x ∷ back) 0 d)
        (sorted_far lower o (front ++ x ∷ back) up (length front + 0) (length front + suc j) d (omega arith) (let l : length (front ++ x ∷ back) ≡ length front + length (x ∷ back) = length-append front (x ∷ back) in omega (arith, l, lt))))

    kept_front : (front back old : List X) → n ≤ length front ⊎ (back ≡ []) → IsPermutation old (front ++ back) → IsSortedBy lower (front ++ back) → (b : X) → Covers old b → Covers front b
    kept_front front [] old long p up b c =
        let same : count_by (λ a. not (lower b a)) (front ++ []) ≡ count_by (λ a. not (lower b a)) old = count-same (λ a. not (lower b a)) old (front ++ []) p in
        subst (λ l. Covers l b) (append-nil front) (omega (arith, same, c))
    kept_front front (x ∷ back) old (inl long) p up b c = still_covers front back old x b long p (up_front front back x up) (up_back front back x up) c
    kept_front front (x ∷ back) old (inr e) p up b c = let f : suc (length back) ≡ 0 = ap length e in absurd (omega (arith, f))

    back_covers : (front back : List X) → n ≤ length front ⊎ (back ≡ []) → IsSortedBy lower (front ++ back) → All (Covers front) back
    back_covers front [] long up = All-nil (Covers front)
    back_covers front (x ∷ back) (inr e) up = let f : suc (length back) ≡ 0 = ap length e in absurd (omega (arith, f))
    back_covers front (x ∷ back) (inl long) up =
        All-cons (Covers front) x back (front_covers front x long (up_front front back x up))
        (λ j d lt. front_covers front (get_or back j d) long (λ i e k. o.chain (get_or back j d) x (get_or front i e) (up_back front back x up j d lt) (up_front front back x up i e k)))

    cut_at : (seen front back old : List X) → n ≤ length front ⊎ (back ≡ []) → IsPermutation old (front ++ back) → IsSortedBy lower (front ++ back) → Kept seen old → Kept seen front
    cut_at seen front back old long p up h = (
      back ++ h.0,
      subst (λ l. IsPermutation seen l) (append_assoc front back h.0) (IsPermutation-trans seen (old ++ h.0) ((front ++ back) ++ h.0) h.1 (IsPermutation-append_left h.0 old (front ++ back) p)),
      All-append (Covers front) back h.0 (back_covers front back long up) (λ j d lt. kept_front front back old long p up (get_or h.0 j d) (h.2 j d lt)),
    )

    long_or_all : (sorted : List X) → n ≤ length (take n sorted) ⊎ (drop n sorted ≡ [])
    long_or_all sorted =
        elim (cases_lt n (length sorted)) [
          | inl lt ↦ inl (let l : length (take n sorted) ≡ n = length-take-le n sorted (omega (arith, lt)) in omega (arith, l))
          | inr le ↦ inr (drop_all n sorted le)
        ]

    pub cut_kept : (seen old sorted new : List X) → IsPermutation old sorted → IsSortedBy lower sorted → new ≡ take n sorted → Kept seen old → Kept seen new
    cut_kept seen old sorted new p up e h =
        let w : take n sorted ++ drop n sorted ≡ sorted = take-append-drop n sorted in
        subst (Kept seen) (sym e)
        (cut_at seen (take n sorted) (drop n sorted) old (long_or_all sorted) (subst (λ l. IsPermutation old l) (sym w) p) (subst (IsSortedBy lower) (sym w) up) h)

    -- the first n of some order of all, or all of one
    abbrev First : List X → List X → Type 0
    First seen first = (all : List X) × IsPermutation all seen × IsSortedBy lower all × (first ≡ take n all)

    pub first_of : (seen kept : List X) → length kept ≤ n → IsSortedBy lower kept → Kept seen kept → First seen kept
    first_of seen kept few up h = by h.0 h.1 h.2
      where
        by : (others : List X) → IsPermutation seen (kept ++ others) → All (Covers kept) others → First seen kept
        by [] p c = (kept, IsPermutation-sym seen kept (subst (IsPermutation seen) (append-nil kept) p), up, sym (take_all n kept few))
        by (b ∷ others) p c =
            let v : n ≤ count_by (λ a. not (lower b a)) kept = All-head (Covers kept) b others c in
            let le : count_by (λ a. not (lower b a)) kept ≤ length kept = count_by-le-length (λ a. not (lower b a)) kept in
            let long : length kept ≡ n = omega (arith, v, le, few) in
            let more = completed lower o kept (b ∷ others) up
            (λ j d lt i c' k.
            false_of (lower (get_or (b ∷ others) i c') (get_or kept j d))
            (all_counted (λ a. not (lower (get_or (b ∷ others) i c') a)) kept (let w : n ≤ count_by (λ a. not (lower (get_or (b ∷ others) i c') a)) kept = c i c' k in omega (arith, w, long)) j d lt)) in
            (kept ++ more.0, IsPermutation-sym seen (kept ++ more.0) (IsPermutation-trans seen (kept ++ b ∷ others) (kept ++ more.0) p more.1), more.2, sym (take_at kept more.0 n long))

    pub passed : (kept : List X) (b : X) (last : ℕ) (bar : X) → (n ≤ length kept → IsSortedBy lower (take n kept)) → last + 1 ≡ n → last < length kept → bar ≡ get_or kept last bar → lower b bar ≡ false → Covers kept b
    passed kept b last bar front e lt is f =
        let test : X → Bool = λ a. not (lower b a) in
        let le : n ≤ length kept = omega (arith, e, lt) in
        let l : length (take n kept) ≡ n = length-take-le n kept le in
        let up = front le in
        let bar_at : bar ≡ get_or (take n kept) last bar = is ∙ sym (get_or-take n kept last bar (omega (arith, e))) in
        let c : Covers (take n kept) b =
        front_covers (take n kept) b (omega (arith, l))
        (λ j d k. o.chain b bar (get_or (take n kept) j d) f
        (subst (λ z. lower z (get_or (take n kept) j d) ≡ false) (get_or_default (take n kept) last d bar (omega (arith, e, l)) ∙ sym bar_at)
        (sorted_far lower o (take n kept) up j last d (let m : j < length (take n kept) = k in omega (arith, m, l, e)) (omega (arith, l, e))))) in
        let both : count_by test (take n kept ++ drop n kept) ≡ count_by test (take n kept) + count_by test (drop n kept) = count-append test (take n kept) (drop n kept) in
        let whole : count_by test (take n kept ++ drop n kept) ≡ count_by test kept = ap (count_by test) (take-append-drop n kept) in
        omega (arith, both, whole, c)
