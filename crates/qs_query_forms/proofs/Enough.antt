-- Some of the solutions suffice for a sequence, and for whether there is one.
use Rattle.std.proofs.Common.{◌≡◌, ◌+◌, ◌<◌, ◌≤◌, ◌⊎◌, ◌==◌, ℕ, Bool, true, false, true≢false, not, nat_lt, List, [], ◌∷◌, ◌++◌, length, take, drop, map, Option, Some, None, Ok, Err, refl, sym, ap, ◌∙◌, subst, arith, append-nil, length-append, inl, inr}
use Rattle.std.proofs.lemmas.List.{take-append-le, drop-append-le, length-drop, length-take, length-map, map-append}
use Rattle.std.proofs.lemmas.Bool.Decides.{nat_tests}
use Rattle.std.proofs.lemmas.Bool.{leb-true}
use Rattle.std.specs.Prelude.{IfSome}
use Rattle.std.proofs.lemmas.List.Sorted.{IsPermutation-sym, IsPermutation-trans, IsPermutation-append_left, length_permutation}
use Rattle.qs_terms.specs.Bag.{SameBag}
use Rattle.qs_terms.specs.Outcome.{Outcome, OneOrOutOfMemory}
use Rattle.qs_terms.specs.declared.fault.QFault.TheVariants.{TooManyRows}
use Rattle.qs_algebra_solutions.specs.Solution.{Solution, projected}
use Rattle.qs_query_order.specs.Order.{IsOrdered}
use Rattle.qs_query_order.specs.declared.condition.OrderCondition.{OrderCondition}
use Rattle.qs_algebra_solutions.specs.inner.Some.{AreSome, is_enough}
use Rattle.qs_algebra_solutions.specs.declared.answer.Answer.{Answer}
use Rattle.qs_query_template.specs.Instances.{made}
use Rattle.qs_query_forms.specs.inner.InOrder.{AllowsMore, ByLimit, AreEnough, AreFew, IsFront, Suffices, SufficesToSelect, IsRowsOf, IsRows, IsGraphOf, bounded}
use Rattle.qs_query_forms.specs.Outcome.{IsBuilt, IsConstructed}
use Rattle.qs_query_forms.specs.Sequence.{sliced, listed_rows, has_solution, count}
use Rattle.qs_query_forms.specs.inner.Sequence.{limited}
use Rattle.qs_query_forms.specs.inner.Sequence.{once_where}
use Rattle.qs_query_forms.specs.declared.construction.Construction.{Construction}
use Rattle.qs_query_forms.specs.declared.modifiers.Slice.{Slice}
use Rattle.qs_query_forms.specs.declared.selection.Selection.{Selection}
use Rattle.qs_query_forms.proofs.Ordered.{rows_in_order, constructed, has_any, counted}
use Rattle.qs_query_forms.proofs.Fronts.{rows_from_front, graph_from_front}

pub same_of_all : (rows all rest : List Solution) → SameBag all (rows ++ rest) → rest ≡ [] → SameBag rows all
same_of_all rows all rest h e = IsPermutation-sym all rows (subst (SameBag all) (ap (λ l. rows ++ l) e ∙ append-nil rows) h)

-- ---- a part of more solutions

module _ (slice : Slice) (xs ys : List Solution) where
  pub part_same : (limit : ℕ) → slice.limit ≡ Some limit → slice.offset + limit ≤ length xs → sliced slice xs ≡ sliced slice (xs ++ ys)
  part_same limit e h =
      let behind : drop slice.offset (xs ++ ys) ≡ drop slice.offset xs ++ ys = drop-append-le slice.offset xs ys (omega (arith, h)) in
      let within : take limit (drop slice.offset xs ++ ys) ≡ take limit (drop slice.offset xs) = take-append-le limit (drop slice.offset xs) ys (omega (arith, h, length-drop slice.offset xs)) in
      ap (λ (l : Option ℕ). limited l (drop slice.offset xs)) e ∙ (sym (ap (take limit) behind ∙ within) ∙ sym (ap (λ (l : Option ℕ). limited l (drop slice.offset (xs ++ ys))) e))

-- there are too many of so many
pub too_many : (slice : Slice) (xs : List Solution) (max_rows : ℕ) → AllowsMore slice.limit max_rows → slice.offset + max_rows < length xs → max_rows < length (sliced slice xs)
too_many slice xs max_rows a h = at slice.limit a
  where
    at : (l : Option ℕ) → AllowsMore l max_rows → max_rows < length (limited l (drop slice.offset xs))
    at None a = omega (arith, h, length-drop slice.offset xs)
    at (Some limit) a = omega (arith, a, h, length-drop slice.offset xs, length-take limit (drop slice.offset xs))

-- the rows of a SELECT where duplicates are kept
module _ (asked : Selection) (keeps : asked.is_distinct ≡ false) where
  kept : (xs : List Solution) → listed_rows asked xs ≡ map (projected asked.columns) xs
  kept xs = ap (λ (b : Bool). once_where b (map (projected asked.columns) xs)) keeps

  many : (xs : List Solution) (max_rows : ℕ) → AllowsMore asked.slice.limit max_rows → asked.slice.offset + max_rows < length xs → max_rows < count asked xs
  many xs max_rows a h =
      subst (λ (l : List Solution). max_rows < length (sliced asked.slice l)) (sym (kept xs))
      (too_many asked.slice (map (projected asked.columns) xs) max_rows a (omega (arith, h, length-map xs (projected asked.columns))))

  same_part : (xs ys : List Solution) (limit : ℕ) → asked.slice.limit ≡ Some limit → asked.slice.offset + limit ≤ length xs → sliced asked.slice (listed_rows asked xs) ≡ sliced asked.slice (listed_rows asked (xs ++ ys))
  same_part xs ys limit e h =
      let f = map (projected asked.columns) in
      ap (sliced asked.slice) (kept xs) ∙ (part_same asked.slice (f xs) (f ys) limit e (omega (arith, h, length-map xs (projected asked.columns)))
      ∙ ap (sliced asked.slice) (sym (map-append (projected asked.columns) xs ys) ∙ sym (kept (xs ++ ys))))

-- what is due of too many rows
refused_rows : (asked : Selection) (all : List Solution) (max_rows : ℕ) (o : Outcome (List Solution)) → max_rows < count asked all → IsRowsOf asked max_rows all o → o ≡ Err TooManyRows
refused_rows asked all max_rows o h (inl p) = p.1
refused_rows asked all max_rows o h (inr p) = absurd (omega (arith, h, p.0))

refused_graph : (asked : Construction) (next max_rows : ℕ) (all : List Solution) (o : Outcome Answer) → max_rows < length (sliced asked.slice all) → IsGraphOf asked next max_rows all o → o ≡ Err TooManyRows
refused_graph asked next max_rows all o h (inl p) = p.1
refused_graph asked next max_rows all o h (inr p) = absurd (omega (arith, h, p.0))

pub weaker : {X : Type 0} (P Q : Outcome X → Type 0) → ((o : Outcome X) → P o → Q o) → (o : Outcome X) → OneOrOutOfMemory P o → OneOrOutOfMemory Q o
weaker P Q f (Ok r) due = f (Ok r) due
weaker P Q f (Err e) due = λ other. f (Err e) (due other)

-- without conditions any order will do
pub unordered : (conditions : List OrderCondition) (all : List Solution) → conditions ≡ [] → IsOrdered conditions all
unordered conditions all e = subst (λ (cs : List OrderCondition). IsOrdered cs all) (sym e) (λ i j d l k. refl)

-- what becomes of the front of some becomes of all
module _ (asked : Selection) (solutions found front : List Solution) (count_of most : Option ℕ) (max_rows : ℕ) (rows : Outcome (List Solution)) where
  due_of_all : (h : IsFront asked.order found count_of front) → SufficesToSelect asked count_of → OneOrOutOfMemory (IsRowsOf asked max_rows front) rows → OneOrOutOfMemory (IsRowsOf asked max_rows h.0) rows
  due_of_all h enough due =
      subst (λ (p : List Solution). OneOrOutOfMemory (λ o. ((max_rows < length p) × (o ≡ Err TooManyRows)) ⊎ ((length p ≤ max_rows) × (o ≡ Ok p))) rows) (ap (λ l. sliced asked.slice (listed_rows asked l)) h.2 ∙ enough h.0) due

  module _ (n : ℕ) (keeps : asked.is_distinct ≡ false) (h : IsFront asked.order found count_of front) (rest : List Solution) (same : SameBag solutions (found ++ rest)) (long : n ≤ length found) where
    counts : (length solutions ≡ length found + length rest) × (length h.0 ≡ length found)
    counts = (omega (arith, length_permutation solutions (found ++ rest) same, length-append found rest), omega (arith, length_permutation h.0 found h.1.0))

    too_many_rows : AllowsMore asked.slice.limit max_rows → asked.slice.offset + max_rows < n → OneOrOutOfMemory (IsRowsOf asked max_rows h.0) rows → OneOrOutOfMemory (IsRows asked solutions max_rows) rows
    too_many_rows a l due =
        weaker (IsRowsOf asked max_rows h.0) (IsRows asked solutions max_rows)
        (λ o p. inl (many asked keeps solutions max_rows a (omega (arith, l, long, counts.0)), refused_rows asked h.0 max_rows o (many asked keeps h.0 max_rows a (omega (arith, l, long, counts.1))) p)) rows due

    up_to_limit : (limit : ℕ) → asked.order ≡ [] → asked.slice.limit ≡ Some limit → asked.slice.offset + limit ≤ n → OneOrOutOfMemory (IsRowsOf asked max_rows h.0) rows → OneOrOutOfMemory (IsRows asked solutions max_rows) rows
    up_to_limit limit none e l due =
        let part : sliced asked.slice (listed_rows asked h.0) ≡ sliced asked.slice (listed_rows asked (h.0 ++ rest)) = same_part asked keeps h.0 rest limit e (omega (arith, l, long, counts.1)) in
        let bag : SameBag (h.0 ++ rest) solutions = IsPermutation-trans (h.0 ++ rest) (found ++ rest) solutions (IsPermutation-append_left rest h.0 found h.1.0) (IsPermutation-sym solutions (found ++ rest) same) in
        rows_in_order asked solutions max_rows (h.0 ++ rest) rows (bag, unordered asked.order (h.0 ++ rest) none)
        (subst (λ (p : List Solution). OneOrOutOfMemory (λ o. ((max_rows < length p) × (o ≡ Err TooManyRows)) ⊎ ((length p ≤ max_rows) × (o ≡ Ok p))) rows) part due)

    by_limit : ByLimit asked.slice asked.order max_rows n → OneOrOutOfMemory (IsRowsOf asked max_rows h.0) rows → OneOrOutOfMemory (IsRows asked solutions max_rows) rows
    by_limit (inl a) due = too_many_rows a.0 a.1 due
    by_limit (inr b) due = up_to_limit b.1 b.0 b.2 b.3 due

  at_most : (m : Option ℕ) → IfSome m (AreEnough asked max_rows) → (h : IsFront asked.order found count_of front) → (rest : List Solution) → SameBag solutions (found ++ rest) → is_enough m (length found) ≡ true
      → OneOrOutOfMemory (IsRowsOf asked max_rows h.0) rows → OneOrOutOfMemory (IsRows asked solutions max_rows) rows
  at_most None few h rest same e due = absurd (true≢false (sym e))
  at_most (Some n) few h rest same e due = by_limit n few.0 h rest same (leb-true n (length found) e) few.1 due

  pub rows_from_some : IsFront asked.order found count_of front → AreSome most found solutions → IfSome most (AreEnough asked max_rows) → SufficesToSelect asked count_of
      → OneOrOutOfMemory (IsRowsOf asked max_rows front) rows → OneOrOutOfMemory (IsRows asked solutions max_rows) rows
  rows_from_some h some few enough due = elim some.2 as (λ _. OneOrOutOfMemory (IsRows asked solutions max_rows) rows) [
    | inl e ↦ rows_from_front asked solutions found front count_of max_rows rows h (same_of_all found solutions some.0 some.1 e) enough due
    | inr e ↦ at_most most few h some.0 some.1 e (due_of_all h enough due)
  ]

-- the same of a CONSTRUCT
module _ (asked : Construction) (next : ℕ) (solutions found front : List Solution) (count_of most : Option ℕ) (max_rows : ℕ) (answer : Outcome Answer) where
  abbrev Due : List Solution → Type 0
  Due part = OneOrOutOfMemory (λ o. ((max_rows < length part) × (o ≡ Err TooManyRows)) ⊎ ((length part ≤ max_rows) × IsBuilt (made asked.template next part) o)) answer

  module _ (n : ℕ) (h : IsFront asked.order found count_of front) (rest : List Solution) (same : SameBag solutions (found ++ rest)) (long : n ≤ length found) where
    counts_of : (length solutions ≡ length found + length rest) × (length h.0 ≡ length found)
    counts_of = (omega (arith, length_permutation solutions (found ++ rest) same, length-append found rest), omega (arith, length_permutation h.0 found h.1.0))

    too_many_of : AllowsMore asked.slice.limit max_rows → asked.slice.offset + max_rows < n → Due (sliced asked.slice h.0) → OneOrOutOfMemory (IsConstructed asked next solutions max_rows) answer
    too_many_of a l due =
        weaker (IsGraphOf asked next max_rows h.0) (IsConstructed asked next solutions max_rows)
        (λ o p. inl (too_many asked.slice solutions max_rows a (omega (arith, l, long, counts_of.0)), refused_graph asked next max_rows h.0 o (too_many asked.slice h.0 max_rows a (omega (arith, l, long, counts_of.1))) p)) answer due

    up_to_limit_of : (limit : ℕ) → asked.order ≡ [] → asked.slice.limit ≡ Some limit → asked.slice.offset + limit ≤ n → Due (sliced asked.slice h.0) → OneOrOutOfMemory (IsConstructed asked next solutions max_rows) answer
    up_to_limit_of limit none e l due =
        let part : sliced asked.slice h.0 ≡ sliced asked.slice (h.0 ++ rest) = part_same asked.slice h.0 rest limit e (omega (arith, l, long, counts_of.1)) in
        let bag : SameBag (h.0 ++ rest) solutions = IsPermutation-trans (h.0 ++ rest) (found ++ rest) solutions (IsPermutation-append_left rest h.0 found h.1.0) (IsPermutation-sym solutions (found ++ rest) same) in
        constructed asked next max_rows solutions (h.0 ++ rest) (bag, unordered asked.order (h.0 ++ rest) none) answer (subst Due part due)

    by_limit_of : ByLimit asked.slice asked.order max_rows n → Due (sliced asked.slice h.0) → OneOrOutOfMemory (IsConstructed asked next solutions max_rows) answer
    by_limit_of (inl a) due = too_many_of a.0 a.1 due
    by_limit_of (inr b) due = up_to_limit_of b.1 b.0 b.2 b.3 due

  at_most_of : (m : Option ℕ) → IfSome m (ByLimit asked.slice asked.order max_rows) → (h : IsFront asked.order found count_of front) → (rest : List Solution) → SameBag solutions (found ++ rest) → is_enough m (length found) ≡ true
      → Due (sliced asked.slice h.0) → OneOrOutOfMemory (IsConstructed asked next solutions max_rows) answer
  at_most_of None few h rest same e due = absurd (true≢false (sym e))
  at_most_of (Some n) few h rest same e due = by_limit_of n h rest same (leb-true n (length found) e) few due

  pub graph_from_some : IsFront asked.order found count_of front → AreSome most found solutions → IfSome most (ByLimit asked.slice asked.order max_rows) → Suffices asked.slice count_of
      → OneOrOutOfMemory (IsGraphOf asked next max_rows front) answer → OneOrOutOfMemory (IsConstructed asked next solutions max_rows) answer
  graph_from_some h some few enough due = elim some.2 as (λ _. OneOrOutOfMemory (IsConstructed asked next solutions max_rows) answer) [
    | inl e ↦ graph_from_front asked next solutions found front count_of max_rows answer h (same_of_all found solutions some.0 some.1 e) enough due
    | inr e ↦ at_most_of most few h some.0 some.1 e (subst Due (ap (sliced asked.slice) h.2 ∙ enough h.0) due)
  ]

-- ---- all solutions, unless they are more than max_rows

due : {X : Type 0} (P : Outcome X → Type 0) (o : Outcome X) → P o → OneOrOutOfMemory P o
due P (Ok r) p = p
due P (Err e) p = λ other. p

-- of one more than are allowed there are too many
pub few_of_some : (most : Option ℕ) (max_rows : ℕ) (found solutions : List Solution) (outcome : Outcome (List Solution)) → IfSome most (λ n. max_rows < n) → AreSome most found solutions → outcome ≡ bounded max_rows found → OneOrOutOfMemory (AreFew solutions max_rows) outcome
few_of_some most max_rows found solutions outcome few some is = due (AreFew solutions max_rows) outcome (elim some.2 as (λ _. AreFew solutions max_rows outcome) [
  | inl e ↦ (found, same_of_all found solutions some.0 some.1 e, is)
  | inr e ↦ (found ++ some.0, IsPermutation-sym solutions (found ++ some.0) some.1, is ∙ (refused_by found (at most few e) ∙ sym (refused_by (found ++ some.0) (omega (arith, at most few e, length-append found some.0)))))
])
  where
    at : (m : Option ℕ) → IfSome m (λ n. max_rows < n) → is_enough m (length found) ≡ true → max_rows < length found
    at None h e = absurd (true≢false (sym e))
    at (Some n) h e = omega (arith, h, leb-true n (length found) e)

    refused_by : (xs : List Solution) → max_rows < length xs → bounded max_rows xs ≡ Err TooManyRows
    refused_by xs h = let t : nat_lt max_rows (length xs) ≡ true = grind (arith, nat_tests, h) in rw t refl

-- ---- whether there is a solution

one_there : (xs solutions rest : List Solution) → SameBag solutions (xs ++ rest) → is_enough (Some 1) (length xs) ≡ true → has_solution xs ≡ has_solution solutions
one_there [] solutions rest h e = absurd (true≢false (sym e))
one_there (x ∷ xs) [] rest h e = absurd (omega (arith, length_permutation [] (x ∷ (xs ++ rest)) h))
one_there (x ∷ xs) (y ∷ ys) rest h e = refl

pub has_some : (xs solutions : List Solution) (n : ℕ) (b : Bool) → AreSome (Some 1) xs solutions → length xs ≡ n → b ≡ (n == 0) → not b ≡ has_solution solutions
has_some xs solutions n b some e is = elim some.2 as (λ _. not b ≡ has_solution solutions) [
  | inl none ↦ has_any xs solutions n b (same_of_all xs solutions some.0 some.1 none) e is
  | inr there ↦ counted xs n b e (sym is) ∙ one_there xs solutions some.0 some.1 there
]
