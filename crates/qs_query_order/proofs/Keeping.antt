-- Rows that are kept, and the solutions that they denote.
use Rattle.std.proofs.Common.{◌≡◌, ℕ, ◌+◌, ◌<◌, ◌≤◌, ◌⊎◌, inl, inr, not, cond, Option, Some, None, List, [], ◌∷◌, ◌++◌, append-nil, length, take, drop, refl, sym, ◌∙◌, ap, subst, arith}
use Rattle.std.proofs.lemmas.List.{get_or-map, get_or_append_left, length-append, length-map, length-take, map-append, take-map, take-append-drop, take-append-le}
use Rattle.std.proofs.lemmas.Bool.{cases_lt}
use Rattle.std.proofs.lemmas.List.Elements.{All-nil, All-cons, All-head, All-tail, All-append}
use Rattle.std.proofs.lemmas.List.Sorted.{ranks_by, sorted_far, IsPermutation-refl, IsPermutation-sym, IsPermutation-trans, IsPermutation-map, IsPermutation-append_left, All-permutation}
use Rattle.std.specs.Cmp.{IsTotalOrder, IsStrictWeakOrder}
use Rattle.std.specs.List.{All, count_by}
use Rattle.std.specs.List.Sorted.{IsPermutation, IsSortedBy}
use Rattle.std.specs.Ordering.{is_lt, ordering_then}
use Rattle.std.specs.Prelude.{slice_index_or}
use Rattle.qs_algebra_solutions.specs.Solution.{Solution}
use Rattle.qs_expr_values.specs.Sorting as of
use Rattle.qs_query_order.proofs.Cut as cut
use Rattle.qs_query_order.proofs.Total.{lists_total}
use Rattle.qs_query_order.specs.inner.Keyed.{is_below, is_lower, solutions_of, AreInFront, AreInFrontIf, AreKept, AreKeptIf, ArePart, Covers, IsKeyed}
use Rattle.qs_query_order.specs.inner.Keys.{keys_of, compare_keys}
use Rattle.qs_query_order.specs.Order.{compare, IsOrdered}
use Rattle.qs_query_order.specs.inner.Order.{compare_by}
use Rattle.qs_query_order.specs.inner.Order.{AreFirst, AreFirstIf}
use Rattle.qs_query_order.specs.declared.condition.OrderCondition.{OrderCondition}
use Rattle.qs_query_order.specs.declared.keyed.KeyedRow.{KeyedRow}

-- solutions stand to each other as their keys do
by_keys : (cs : List OrderCondition) (a b : Solution) → compare_keys cs (keys_of cs a) (keys_of cs b) ≡ compare cs a b
by_keys [] a b = refl
by_keys (c ∷ cs) a b = ap (ordering_then (compare_by c a b)) (by_keys cs a b)

below_order : IsTotalOrder of.compare_keys → (cs : List OrderCondition) → IsStrictWeakOrder (is_below cs)
below_order t cs = ranks_by (lists_total t cs) (keys_of cs)

pub lower_order : {R : Type 0} → IsTotalOrder of.compare_keys → (cs : List OrderCondition) → IsStrictWeakOrder (is_lower {R = R} cs)
lower_order t cs = ranks_by (lists_total t cs) (λ k. k.keys.items)

ordered : IsTotalOrder of.compare_keys → (cs : List OrderCondition) (ms : List Solution) → IsSortedBy (is_below cs) ms → IsOrdered cs ms
ordered t cs ms up i j d p q =
    sym (ap is_lt (by_keys cs (slice_index_or ms j d) (slice_index_or ms i d))) ∙ sorted_far (is_below cs) (below_order t cs) ms up i j d (omega (arith, p)) q

-- ---- a part

pub part_one : {X : Type 0} (xs : List X) (x : X) → ArePart (xs ++ x ∷ []) xs
part_one xs x = (x ∷ [], IsPermutation-refl (xs ++ x ∷ []))

pub part_all : {X : Type 0} (xs ys : List X) → ys ≡ xs → ArePart xs ys
part_all xs ys e = ([], subst (IsPermutation xs) (sym e ∙ sym (append-nil ys)) (IsPermutation-refl xs))

-- after one more
pub part_more : {X : Type 0} (xs all part : List X) (x : X) → all ≡ xs ++ x ∷ [] → ArePart all part → ArePart (xs ++ x ∷ []) part
part_more xs all part x e h = subst (λ l. ArePart l part) e h

pub part_sorted : {X : Type 0} (xs ys : List X) → IsPermutation xs ys → ArePart xs ys
part_sorted xs ys p = ([], subst (IsPermutation xs) (sym (append-nil ys)) p)

pub part_taken : {X : Type 0} (n : ℕ) (xs sorted ys : List X) → IsPermutation xs sorted → ys ≡ take n sorted → ArePart xs ys
part_taken n xs sorted ys p e =
    (drop n sorted, subst (IsPermutation xs) (sym (ap (λ l. l ++ drop n sorted) e ∙ take-append-drop n sorted)) p)

-- ---- rows and their solutions

module _ {R : Type 0} (f : R → Solution) (cs : List OrderCondition) where
  lower_is : (x y : KeyedRow R) → IsKeyed f cs x → IsKeyed f cs y → is_lower cs x y ≡ is_below cs (f x.row) (f y.row)
  lower_is x y p q = ap is_lt (ap (λ ks. compare_keys cs ks y.keys.items) p ∙ ap (compare_keys cs (keys_of cs (f x.row))) q)

  solution_at : (k : KeyedRow R) (ks : List (KeyedRow R)) (i : ℕ) (d : Solution) → i < length ks → slice_index_or (solutions_of f ks) i d ≡ f (slice_index_or ks i k).row
  solution_at k ks i d h = get_or-map (λ (k : KeyedRow R). f k.row) ks i k d h

  sorted_solutions : (ks : List (KeyedRow R)) → All (IsKeyed f cs) ks → IsSortedBy (is_lower cs) ks → IsSortedBy (is_below cs) (solutions_of f ks)
  sorted_solutions [] all up i d p q = absurd (omega (arith, q))
  sorted_solutions (k ∷ ks) all up i d p q =
      let h : i + 1 < length (k ∷ ks) = subst (λ (n : ℕ). i + 1 < n) (length-map (k ∷ ks) (λ (k : KeyedRow R). f k.row)) q in
      rw (solution_at k (k ∷ ks) (i + 1) d h, solution_at k (k ∷ ks) i d (omega (arith, h)))
      (sym (lower_is (slice_index_or (k ∷ ks) (i + 1) k) (slice_index_or (k ∷ ks) i k) (all (i + 1) k h) (all i k (omega (arith, h)))) ∙ up i k p h)

  counted : (b : KeyedRow R) (ks : List (KeyedRow R)) → IsKeyed f cs b → All (IsKeyed f cs) ks → count_by (λ a. not (is_lower cs b a)) ks ≡ count_by (λ a. not (is_below cs (f b.row) a)) (solutions_of f ks)
  counted b [] p all = refl
  counted b (k ∷ ks) p all =
      let e = lower_is b k p (All-head (IsKeyed f cs) k ks all) in
      cut.count_one (λ a. not (is_lower cs b a)) k ks (not (is_lower cs b k)) refl
      ∙ (ap (λ n. (0 + cond (not (is_lower cs b k)) 1 0) + n) (counted b ks p (All-tail (IsKeyed f cs) k ks all))
      ∙ sym (cut.count_one (λ a. not (is_below cs (f b.row) a)) (f k.row) (solutions_of f ks) (not (is_lower cs b k)) (ap not (sym e))))

  pub covered : (n : ℕ) (b : KeyedRow R) (ks : List (KeyedRow R)) → n ≤ count_by (λ a. not (is_lower cs b a)) ks → All (IsKeyed f cs) ks → IsKeyed f cs b → Covers cs n (solutions_of f ks) (f b.row)
  covered n b ks h all p = subst (λ (m : ℕ). n ≤ m) (counted b ks p all) h

  pub keyed_more : (ks new : List (KeyedRow R)) (k : KeyedRow R) → new ≡ ks ++ k ∷ [] → All (IsKeyed f cs) ks → IsKeyed f cs k → All (IsKeyed f cs) new
  keyed_more ks new k e all p = subst (All (IsKeyed f cs)) (sym e) (All-append (IsKeyed f cs) ks (k ∷ []) all (All-cons (IsKeyed f cs) k [] p (All-nil (IsKeyed f cs))))

  solutions_more : (ks new : List (KeyedRow R)) (k : KeyedRow R) → new ≡ ks ++ k ∷ [] → solutions_of f new ≡ solutions_of f ks ++ f k.row ∷ []
  solutions_more ks new k e = ap (solutions_of f) e ∙ map-append (λ (k : KeyedRow R). f k.row) ks (k ∷ [])

  pub one_kept : (n : ℕ) (seen : List Solution) (ks new : List (KeyedRow R)) (k : KeyedRow R) → new ≡ ks ++ k ∷ [] → AreKept cs n seen (solutions_of f ks) → AreKept cs n (seen ++ f k.row ∷ []) (solutions_of f new)
  one_kept n seen ks new k e h =
      subst (AreKept cs n (seen ++ f k.row ∷ [])) (sym (solutions_more ks new k e)) (cut.kept_more (is_below cs) n seen (solutions_of f ks) (f k.row) h)

  pub one_passed : (n : ℕ) (seen : List Solution) (ks : List (KeyedRow R)) (k : KeyedRow R) → Covers cs n (solutions_of f ks) (f k.row) → AreKept cs n seen (solutions_of f ks) → AreKept cs n (seen ++ f k.row ∷ []) (solutions_of f ks)
  one_passed n seen ks k c h = cut.kept_passed (is_below cs) n seen (solutions_of f ks) (f k.row) c h

  pub all_kept : (seen : List Solution) (ks new : List (KeyedRow R)) (k : KeyedRow R) → new ≡ ks ++ k ∷ [] → IsPermutation seen (solutions_of f ks) → IsPermutation (seen ++ f k.row ∷ []) (solutions_of f new)
  all_kept seen ks new k e h =
      subst (IsPermutation (seen ++ f k.row ∷ [])) (sym (solutions_more ks new k e)) (IsPermutation-append_left (f k.row ∷ []) seen (solutions_of f ks) h)

  module _ (t : IsTotalOrder of.compare_keys) where
    keyed_sorted : (old sorted : List (KeyedRow R)) → IsPermutation old sorted → All (IsKeyed f cs) old → All (IsKeyed f cs) sorted
    keyed_sorted old sorted p all = All-permutation (IsKeyed f cs) old sorted p all

    -- so many of them in order
    pub cut_kept : (n : ℕ) (seen : List Solution) (old sorted new : List (KeyedRow R)) → IsPermutation old sorted → IsSortedBy (is_lower cs) sorted → new ≡ take n sorted → All (IsKeyed f cs) old → AreKept cs n seen (solutions_of f old) → AreKept cs n seen (solutions_of f new)
    cut_kept n seen old sorted new p up e all h =
        cut.cut_kept (is_below cs) n (below_order t cs) seen (solutions_of f old) (solutions_of f sorted) (solutions_of f new) (IsPermutation-map (λ (k : KeyedRow R). f k.row) old sorted p)
        (sorted_solutions sorted (keyed_sorted old sorted p all) up) (ap (solutions_of f) e ∙ sym (take-map (λ (k : KeyedRow R). f k.row) n sorted)) h

    pub are_first : (n : ℕ) (seen : List Solution) (new : List (KeyedRow R)) → length new ≤ n → All (IsKeyed f cs) new → IsSortedBy (is_lower cs) new → AreKept cs n seen (solutions_of f new) → AreFirst cs seen n (solutions_of f new)
    are_first n seen new few all up h =
        let first = cut.first_of (is_below cs) n (below_order t cs) seen (solutions_of f new) (subst (λ (m : ℕ). m ≤ n) (sym (length-map new (λ (k : KeyedRow R). f k.row))) few) (sorted_solutions new all up) h in
        (first.0, first.1, ordered t cs first.0 first.2, first.3)

    pub all_ordered : (seen : List Solution) (old new : List (KeyedRow R)) → IsPermutation old new → IsSortedBy (is_lower cs) new → All (IsKeyed f cs) old → IsPermutation seen (solutions_of f old) → AreFirstIf cs None seen (solutions_of f new)
    all_ordered seen old new p up all h = (
      IsPermutation-sym seen (solutions_of f new) (IsPermutation-trans seen (solutions_of f old) (solutions_of f new) h (IsPermutation-map (λ (k : KeyedRow R). f k.row) old new p)),
      ordered t cs (solutions_of f new) (sorted_solutions new (keyed_sorted old new p all) up),
    )

-- those of a part are keyed too
pub keyed_part : {R : Type 0} (f : R → Solution) (cs : List OrderCondition) (all part : List (KeyedRow R)) → ArePart all part → All (IsKeyed f cs) all → All (IsKeyed f cs) part
keyed_part f cs all part h keyed =
    let both : All (IsKeyed f cs) (part ++ h.0) = All-permutation (IsKeyed f cs) all (part ++ h.0) h.1 keyed in
    λ i d lt. subst (IsKeyed f cs) (get_or_append_left part h.0 d i lt) (both i d (let l = length-append part h.0 in omega (arith, l, lt)))

-- where one more is kept, the first n are in order still, or there are n for the first time
pub front_more : {R : Type 0} (cs : List OrderCondition) (n : ℕ) (old new : List (KeyedRow R)) (one : KeyedRow R) → new ≡ old ++ one ∷ [] → AreInFront cs n old → AreInFront cs n new ⊎ (length new ≡ n)
front_more cs n old new one e front = elim (cases_lt (length old) n) [
  | inl few ↦ elim (cases_lt (length new) n) [
    | inl fewer ↦ inl (λ many. absurd (omega (arith, fewer, many)))
    | inr full ↦ inr (let l = ap length e in let k = length-append old (one ∷ []) in omega (arith, few, full, l, k))
  ]
  | inr many ↦ inl (λ more. subst (IsSortedBy (is_lower cs)) (sym (ap (take n) e ∙ take-append-le n old (one ∷ []) many)) (front many))
]

-- ---- where a count is given, and where none is

module _ (cs : List OrderCondition) (count : Option ℕ) (seen ms : List Solution) where
  pub kept_of : (c : Option ℕ) → count ≡ c → AreKeptIf cs count seen ms → AreKeptIf cs c seen ms
  kept_of c e h = subst (λ (o : Option ℕ). AreKeptIf cs o seen ms) e h

  pub kept_by : (c : Option ℕ) → count ≡ c → AreKeptIf cs c seen ms → AreKeptIf cs count seen ms
  kept_by c e h = subst (λ (o : Option ℕ). AreKeptIf cs o seen ms) (sym e) h

  pub first_by : (c : Option ℕ) → count ≡ c → AreFirstIf cs c seen ms → AreFirstIf cs count seen ms
  first_by c e h = subst (λ (o : Option ℕ). AreFirstIf cs o seen ms) (sym e) h

-- ---- before any is seen

pub none_kept : (cs : List OrderCondition) (count : Option ℕ) → AreKeptIf cs count [] []
none_kept cs None = IsPermutation-refl []
none_kept cs (Some n) = ([], IsPermutation-refl [], All-nil (Covers cs n []))

pub none_in_front : {R : Type 0} (cs : List OrderCondition) (count : Option ℕ) (kept : List (KeyedRow R)) → kept ≡ [] → AreInFrontIf cs count kept
none_in_front cs None kept e = tt
none_in_front cs (Some n) kept e = λ more i d p q. let l = length-take n kept in let z = ap length e in absurd (omega (arith, q, l, z))
