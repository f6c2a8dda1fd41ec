-- Solutions of an evaluation, one after another.
use Rattle.std.proofs.Common.{◌≡◌, ◌<◌, ◌≤◌, ◌+◌, ℕ, Bool, true, Option, Some, None, List, [], ◌∷◌, ◌++◌, length, unwrap_or, refl, sym, subst, arith, inl, inr, append_assoc, length-append}
use Rattle.std.proofs.lemmas.List.Sorted.{length_permutation, IsPermutation-refl, IsPermutation-sym, IsPermutation-trans, IsPermutation-append_right}
use Rattle.qs_terms.specs.Bag.{SameBag}
use Rattle.qs_algebra_solutions.specs.Solution.{Solution}
use Rattle.qs_algebra_solutions.specs.inner.Some.{is_enough}
use Rattle.qs_ops_walk.specs.inner.Stream.{AreToCome, GivesOne}
use Rattle.qs_query_solutions.specs.inner.Collected.{Collection, Collects, CollectsAfter, IsPart, IsPassed, with_rows}
use Rattle.qs_query_solutions.proofs.Collecting.{begun, one_came, nothing_left, enough_came, after_same}

-- of all solutions that were to come at the start some are collected, and the others are still to come
abbrev pub IsOnTheWay : Collection → Option (List Solution) → Collection → Option (List Solution) → Type 0
IsOnTheWay old start new rows = (all : List Solution) → start ≡ Some all → (left : List Solution) × (rows ≡ Some left) × IsPart old all new left

pub at_start : (old : Collection) (start : Option (List Solution)) → IsOnTheWay old start old start
at_start old start all e = (all, e, begun old all)

-- what is left after one more
pub record Left (xs : List Solution) (m : Solution) (q : Option (List Solution)) : Type 0 where
  pub rest : List Solution
  pub is : q ≡ Some rest
  pub bag : SameBag xs (m ∷ rest)

pub left_of : (xs : List Solution) (m : Solution) (q : Option (List Solution)) → GivesOne (Some xs) (Some m) q → Left xs m q
left_of xs m None g = absurd g
left_of xs m (Some ys) g = record { rest = ys; is = refl; bag = g }

pub none_of : (xs : List Solution) (q : Option (List Solution)) → GivesOne (Some xs) None q → xs ≡ []
none_of xs None g = absurd g
none_of xs (Some ys) g = g.0

module _ (old : Collection) (start : Option (List Solution)) (mid : Collection) (rows : Option (List Solution)) (h : IsOnTheWay old start mid rows) where
  pub one_more : (new : Collection) (m : Solution) (q : Option (List Solution)) → GivesOne rows (Some m) q → new ≡ with_rows mid (m ∷ []) → IsOnTheWay old start new q
  one_more new m q g e all s =
      let k = h all s in
      let l : Left k.0 m q = left_of k.0 m q (subst (λ (o : Option (List Solution)). GivesOne o (Some m) q) k.1 g) in
      (l.rest, l.is, one_came old all mid new k.0 l.rest m k.2 l.bag e)

  pub none_more : (q : Option (List Solution)) → GivesOne rows None q → (all : List Solution) → start ≡ Some all → Collects old mid all
  none_more q g all s =
      let k = h all s in
      nothing_left old all mid k.0 k.2 (none_of k.0 q (subst (λ (o : Option (List Solution)). GivesOne o None q) k.1 g))

  pub enough : (b : Bool) → b ≡ is_enough mid.most (length mid.rows) → b ≡ true → (all : List Solution) → start ≡ Some all → Collects old mid all
  enough b e t all s = let k = h all s in enough_came old all mid k.0 b k.2 e t

pub fewer : (o : Option (List Solution)) (m : Solution) (q : Option (List Solution)) → GivesOne o (Some m) q → length (unwrap_or q []) < length (unwrap_or o [])
fewer None m q g = absurd g
fewer (Some xs) m None g = absurd g
fewer (Some xs) m (Some ys) g = let e : length (m ∷ ys) ≡ length xs = length_permutation xs (m ∷ ys) g in omega (arith, e)

-- the solutions that were to come at the start are those of a plan
pub planned : (offset : ℕ) (old new : Collection) (xs : List Solution) (start : Option (List Solution)) → AreToCome xs start → ((all : List Solution) → start ≡ Some all → CollectsAfter offset old new all) → CollectsAfter offset old new xs
planned offset old new xs None h f = absurd h
planned offset old new xs (Some ys) h f = after_same offset old new ys xs (IsPermutation-sym ys xs h) (f ys refl)

-- ---- solutions that are passed over

-- of all solutions that were to come at the start so many are passed over, and the others are still to come
abbrev pub IsPassing : Option (List Solution) → ℕ → Option (List Solution) → Type 0
IsPassing start n rows = (all : List Solution) → start ≡ Some all → (passed left : List Solution) × SameBag all (passed ++ left) × (length passed ≡ n) × (rows ≡ Some left)

-- so many are passed over, or all
abbrev pub ArePassed : Option (List Solution) → ℕ → Option (List Solution) → Type 0
ArePassed start count rows = (all : List Solution) → start ≡ Some all → (passed left : List Solution) × IsPassed count all passed left × (rows ≡ Some left)

pub none_passed_yet : (start : Option (List Solution)) → IsPassing start 0 start
none_passed_yet start all e = ([], all, IsPermutation-refl all, refl, e)

end_of : (xs : List Solution) (q : Option (List Solution)) → GivesOne (Some xs) None q → (xs ≡ []) × (q ≡ Some xs)
end_of xs None g = absurd g
end_of [] (Some []) g = (refl, refl)
end_of [] (Some (y ∷ ys)) g = absurd (let e = g.1 in cc)
end_of (x ∷ xs) (Some ys) g = absurd (let e = g.0 in cc)

module _ (start : Option (List Solution)) (n : ℕ) (rows : Option (List Solution)) (h : IsPassing start n rows) where
  pub one_passed : (m : Solution) (q : Option (List Solution)) → GivesOne rows (Some m) q → IsPassing start (n + 1) q
  one_passed m q g all s =
      let k = h all s in
      let l : Left k.1 m q = left_of k.1 m q (subst (λ (o : Option (List Solution)). GivesOne o (Some m) q) k.4 g) in
      let w = length-append k.0 (m ∷ []) in (
        k.0 ++ m ∷ [],
        l.rest,
        subst (SameBag all) (sym (append_assoc k.0 (m ∷ []) l.rest)) (IsPermutation-trans all (k.0 ++ k.1) (k.0 ++ m ∷ l.rest) k.2 (IsPermutation-append_right k.0 k.1 (m ∷ l.rest) l.bag)),
        omega (arith, w, k.3),
        l.is,
      )

  pub all_passed : (count : ℕ) (q : Option (List Solution)) → n ≤ count → GivesOne rows None q → ArePassed start count q
  all_passed count q few g all s =
      let k = h all s in
      let e = end_of k.1 q (subst (λ (o : Option (List Solution)). GivesOne o None q) k.4 g) in
      (k.0, k.1, (k.2, inr (e.0, omega (arith, few, k.3))), e.1)

  pub enough_passed : (count : ℕ) → n ≡ count → ArePassed start count rows
  enough_passed count e all s = let k = h all s in (k.0, k.1, (k.2, inl (omega (arith, e, k.3))), k.4)

-- what comes after them
pub after_passed : (start rows : Option (List Solution)) (offset : ℕ) (old new : Collection) → ArePassed start offset rows → ((all : List Solution) → rows ≡ Some all → Collects old new all) → (all : List Solution) → start ≡ Some all → CollectsAfter offset old new all
after_passed start rows offset old new h f all s = let k = h all s in (k.0, k.1, k.2, f k.1 k.3)
