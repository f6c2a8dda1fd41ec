-- Rows of cells that are kept for an order while solutions are seen.
use Rattle.std.proofs.Common.{◌≡◌, ◌+◌, ◌-◌, ℕ, true, Option, Some, None, List, [], ◌∷◌, ◌++◌, length, map, get_or, refl, sym, ◌∙◌, ap, subst, arith, inl, inr, append_assoc, length-append}
use Rattle.std.specs.Prelude.{drop}
use Rattle.std.specs.List.{All}
use Rattle.std.proofs.lemmas.Bool.{le-leb}
use Rattle.std.proofs.lemmas.Option.{none-some}
use Rattle.std.proofs.lemmas.List.{drop-map, get_or_append_left}
use Rattle.std.proofs.lemmas.List.Elements.{All-drop, All-nil, All-cons, All-head, All-tail, All-append}
use Rattle.std.proofs.lemmas.List.Sorted.{IsPermutation-refl, IsPermutation-sym, IsPermutation-trans, IsPermutation-append_right, All-permutation}
use Rattle.qs_terms.specs.Bag.{SameBag}
use Rattle.qs_terms.specs.declared.term.Term.{Term}
use Rattle.qs_algebra_solutions.specs.Solution.{Solution}
use Rattle.qs_algebra_solutions.specs.inner.Some.{AreSome, is_enough}
use Rattle.qs_expr.specs.inner.Cell.{Cells, row_solution, FitsRow}
use Rattle.qs_expr.specs.inner.Scratch.{Grows}
use Rattle.qs_expr.proofs.Growth.{same_row, still_row}
use Rattle.qs_ops_walk.specs.inner.Stream.{AreToCome, GivesOne}
use Rattle.qs_query_order.specs.inner.Order.{AreFirstIf}
use Rattle.qs_query_order.specs.inner.Keyed.{AreKeptIf, ArePart, IsKeyed, solutions_of}
use Rattle.qs_query_order.specs.inner.Keys.{keys_of}
use Rattle.qs_query_order.specs.declared.condition.OrderCondition.{OrderCondition}
use Rattle.qs_query_order.specs.declared.keyed.KeyedRow.{KeyedRow}
use Rattle.qs_query_order.proofs.Keeping.{none_kept}
use Rattle.qs_query_solutions.specs.inner.After.{projected_if}
use Rattle.qs_query_solutions.specs.inner.Ordered.{IsOrderedPart}
use Rattle.qs_query_solutions.specs.inner.Collected.{most_left}
use Rattle.qs_query_solutions.specs.inner.SoFar.{AreSoFar, Fit, one_less}
use Rattle.qs_query_solutions.proofs.Coming.{Left, left_of, none_of}

all_part : {X : Type 0} (P : X → Type 0) (all part : List X) → ArePart all part → All P all → All P part
all_part P all part h each =
    let both : All P (part ++ h.0) = All-permutation P all (part ++ h.0) h.1 each in
    λ i d lt. subst P (get_or_append_left part h.0 d i lt) (both i d (let l = length-append part h.0 in omega (arith, l, lt)))

all_more : {X : Type 0} (P : X → Type 0) (xs : List X) (x : X) → All P xs → P x → All P (xs ++ x ∷ [])
all_more P xs x h p = All-append P xs (x ∷ []) h (All-cons P x [] p (All-nil P))

module _ (known : List Term) (cs : List OrderCondition) (count : Option ℕ) where
  pub none_so_far : (table : List Term) (kept : List (KeyedRow Cells)) → kept ≡ [] → AreSoFar known table cs count [] kept
  none_so_far table kept e = subst (AreSoFar known table cs count []) (sym e) record {
    fits = All-nil (λ k. FitsRow known table k.row);
    keyed = All-nil (IsKeyed (row_solution known table) cs);
    are_kept = none_kept cs count;
  }

  pub none_fit : (table : List Term) (kept : List (KeyedRow Cells)) → kept ≡ [] → Fit known table kept
  none_fit table kept e = subst (Fit known table) (sym e) (All-nil (λ k. FitsRow known table k.row))

  pub one_fits : (table : List Term) (old new : List (KeyedRow Cells)) (one : KeyedRow Cells) → FitsRow known table one.row → ArePart (old ++ one ∷ []) new → Fit known table old → Fit known table new
  one_fits table old new one fit part h = all_part (λ k. FitsRow known table k.row) (old ++ one ∷ []) new part (all_more (λ k. FitsRow known table k.row) old one h fit)

  pub part_fits : (table : List Term) (old new : List (KeyedRow Cells)) → ArePart old new → Fit known table old → Fit known table new
  part_fits table old new part h = all_part (λ k. FitsRow known table k.row) old new part h

  pub rest_fits : (table : List Term) (n : ℕ) (kept : List (KeyedRow Cells)) → Fit known table kept → Fit known table (drop n kept)
  rest_fits table n kept h = All-drop (λ k. FitsRow known table k.row) n kept h

  -- one row more
  pub one_so_far : (table : List Term) (seen : List Solution) (old new : List (KeyedRow Cells)) (one : KeyedRow Cells) → FitsRow known table one.row → IsKeyed (row_solution known table) cs one → ArePart (old ++ one ∷ []) new
      → AreKeptIf cs count (seen ++ row_solution known table one.row ∷ []) (solutions_of (row_solution known table) new) → AreSoFar known table cs count seen old → AreSoFar known table cs count (seen ++ row_solution known table one.row ∷ []) new
  one_so_far table seen old new one fit is part due h = record {
    fits = all_part (λ k. FitsRow known table k.row) (old ++ one ∷ []) new part (all_more (λ k. FitsRow known table k.row) old one h.fits fit);
    keyed = all_part (IsKeyed (row_solution known table) cs) (old ++ one ∷ []) new part (all_more (IsKeyed (row_solution known table) cs) old one h.keyed is);
    are_kept = due;
  }

  -- while the table grows
  module _ (old new : List Term) (g : Grows known old new) where
    same_solutions : (kept : List (KeyedRow Cells)) → Fit known old kept → solutions_of (row_solution known old) kept ≡ solutions_of (row_solution known new) kept
    same_solutions [] h = refl
    same_solutions (k ∷ ks) h =
        ap (λ m. m ∷ solutions_of (row_solution known old) ks) (sym (same_row known old new g k.row (All-head (λ k. FitsRow known old k.row) k ks h)))
        ∙ ap (λ l. row_solution known new k.row ∷ l) (same_solutions ks (All-tail (λ k. FitsRow known old k.row) k ks h))

    pub still_fit : (kept : List (KeyedRow Cells)) → Fit known old kept → Fit known new kept
    still_fit kept h = λ i d lt. still_row known old new g (get_or kept i d).row (h i d lt)

    pub still_so_far : (seen : List Solution) (kept : List (KeyedRow Cells)) → AreSoFar known old cs count seen kept → AreSoFar known new cs count seen kept
    still_so_far seen kept h = record {
      fits = λ i d lt. still_row known old new g (get_or kept i d).row (h.fits i d lt);
      keyed = λ i d lt. h.keyed i d lt ∙ ap (keys_of cs) (sym (same_row known old new g (get_or kept i d).row (h.fits i d lt)));
      are_kept = subst (AreKeptIf cs count seen) (same_solutions kept h.fits) h.are_kept;
    }

-- ---- how many more suffice

pub one_less_left : (most : Option ℕ) (n m : ℕ) (left new : Option ℕ) → left ≡ most_left most n → new ≡ one_less left → m ≡ n + 1 → new ≡ most_left most m
one_less_left None n m left new e f is = f ∙ ap one_less e
one_less_left (Some k) n m left new e f is = f ∙ (ap one_less e ∙ ap Some (let w : k - n - 1 ≡ k - m = omega (arith, is) in w))

none_left : (most : Option ℕ) (n : ℕ) → Some 0 ≡ most_left most n → is_enough most n ≡ true
none_left None n e = absurd (none-some 0 (sym e))
none_left (Some k) n e = le-leb k n (let w : k - n ≡ 0 = cc in omega (arith, w))

pub most_at_start : (most : Option ℕ) → most ≡ most_left most 0
most_at_start None = refl
most_at_start (Some k) = ap Some (let w : k ≡ k - 0 = omega arith in w)

-- ---- on the way

-- of all solutions that were to come at the start some were seen, and the others are still to come
abbrev pub IsOnTheWay : List OrderCondition → Option ℕ → Option ℕ → Option (List Solution) → List Term → List Term → Option ℕ → Option (List Solution) → List (KeyedRow Cells) → Type 0
IsOnTheWay cs count most start known table left rows kept =
    (all : List Solution) → start ≡ Some all → (seen rest : List Solution) × (rows ≡ Some rest) × SameBag all (seen ++ rest) × (left ≡ most_left most (length seen)) × AreSoFar known table cs count seen kept

-- some were seen, as many as suffice, or all
abbrev pub HasSeen : List OrderCondition → Option ℕ → Option ℕ → Option (List Solution) → List Term → List Term → List (KeyedRow Cells) → Type 0
HasSeen cs count most start known table kept =
    (all : List Solution) → start ≡ Some all → (seen : List Solution) × AreSome most seen all × AreSoFar known table cs count seen kept

module _ (cs : List OrderCondition) (count most : Option ℕ) (start : Option (List Solution)) (known : List Term) where
  pub at_start : (table : List Term) (kept : List (KeyedRow Cells)) → kept ≡ [] → IsOnTheWay cs count most start known table most start kept
  at_start table kept e all s = ([], all, s, IsPermutation-refl all, most_at_start most, none_so_far known cs count table kept e)

  module _ (table : List Term) (left : Option ℕ) (rows : Option (List Solution)) (kept : List (KeyedRow Cells)) (h : IsOnTheWay cs count most start known table left rows kept) (table2 : List Term) (g : Grows known table table2) where
    pub one_more : (m : Solution) (q : Option (List Solution)) (new : List (KeyedRow Cells)) (less : Option ℕ) → GivesOne rows (Some m) q
        → ((seen : List Solution) → AreSoFar known table2 cs count seen kept → AreSoFar known table2 cs count (seen ++ m ∷ []) new) → less ≡ one_less left → IsOnTheWay cs count most start known table2 less q new
    one_more m q new less gives due is all s =
        let k = h all s in
        let seen = k.0 in
        let l : Left k.1 m q = left_of k.1 m q (subst (λ (o : Option (List Solution)). GivesOne o (Some m) q) k.2 gives) in
        let w = length-append seen (m ∷ []) in (
          seen ++ m ∷ [],
          l.rest,
          l.is,
          subst (SameBag all) (sym (append_assoc seen (m ∷ []) l.rest)) (IsPermutation-trans all (seen ++ k.1) (seen ++ m ∷ l.rest) k.3 (IsPermutation-append_right seen k.1 (m ∷ l.rest) l.bag)),
          one_less_left most (length seen) (length (seen ++ m ∷ [])) left less k.4 is (omega (arith, w)),
          due seen (still_so_far known cs count table table2 g seen kept k.5),
        )

    pub none_more : (q : Option (List Solution)) → GivesOne rows None q → HasSeen cs count most start known table2 kept
    none_more q gives all s =
        let k = h all s in
        let none : k.1 ≡ [] = none_of k.1 q (subst (λ (o : Option (List Solution)). GivesOne o None q) k.2 gives) in
        (k.0, (k.1, k.3, inl none), still_so_far known cs count table table2 g k.0 kept k.5)

  pub enough : (table : List Term) (left : Option ℕ) (rows : Option (List Solution)) (kept : List (KeyedRow Cells)) → left ≡ Some 0 → IsOnTheWay cs count most start known table left rows kept → HasSeen cs count most start known table kept
  enough table left rows kept e h all s =
      let k = h all s in
      (k.0, (k.1, k.3, inr (none_left most (length k.0) (sym e ∙ k.4))), k.5)

-- ---- the part

some_same : (most : Option ℕ) (some a b : List Solution) → SameBag b a → AreSome most some a → AreSome most some b
some_same most some a b h k = (k.0, IsPermutation-trans b a (some ++ k.0) h k.1, k.2)

module _ (cs : List OrderCondition) (columns : Option (List ℕ)) (offset : ℕ) (count most : Option ℕ) (rows : List Solution) where
  pub part_same : (a b : List Solution) → SameBag b a → IsOrderedPart cs columns offset count most rows a → IsOrderedPart cs columns offset count most rows b
  part_same a b h k = (k.0, k.1, some_same most k.0 a b h k.2, k.3, k.4)

  -- the solutions that were to come at the start are those of a plan
  pub part_planned : (xs : List Solution) (start : Option (List Solution)) → AreToCome xs start → ((all : List Solution) → start ≡ Some all → IsOrderedPart cs columns offset count most rows all) → IsOrderedPart cs columns offset count most rows xs
  part_planned xs None h f = absurd h
  part_planned xs (Some ys) h f = part_same ys xs (IsPermutation-sym ys xs h) (f ys refl)

-- what is made of the rows in order
module _ (cs : List OrderCondition) (columns : Option (List ℕ)) (offset : ℕ) (count most : Option ℕ) (start : Option (List Solution)) (known table : List Term) (kept new : List (KeyedRow Cells)) where
  pub part_made : (rows : List Solution) → HasSeen cs count most start known table kept
      → ((f : Cells → Solution) (seen : List Solution) → All (IsKeyed f cs) kept → AreKeptIf cs count seen (solutions_of f kept) → AreFirstIf cs count seen (solutions_of f new))
      → rows ≡ map (projected_if columns) (solutions_of (row_solution known table) (drop offset new))
      → (all : List Solution) → start ≡ Some all → IsOrderedPart cs columns offset count most rows all
  part_made rows h first e all s =
      let k = h all s in
      (k.0, solutions_of (row_solution known table) new, k.1, first (row_solution known table) k.0 k.2.keyed k.2.are_kept, e ∙ ap (map (projected_if columns)) (sym (drop-map (λ (k : KeyedRow Cells). row_solution known table k.row) offset new)))
