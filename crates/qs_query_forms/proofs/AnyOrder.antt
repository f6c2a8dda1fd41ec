-- Some of the solutions suffice for a sequence without conditions, also where duplicates are eliminated.
use Rattle.std.proofs.Common.{◌≡◌, ◌<◌, ◌≤◌, ◌⊎◌, ℕ, Bool, true, false, true≢false, not, nat_lt, List, [], ◌∷◌, ◌++◌, length, map, drop, Option, Some, None, Ok, Err, refl, sym, ap, ◌∙◌, subst, arith, length-append, inl, inr}
use Rattle.std.proofs.lemmas.List.{drop-map, length-map, map-append, map-id}
use Rattle.std.proofs.lemmas.Bool.Decides.{nat_tests}
use Rattle.std.proofs.lemmas.Bool.{leb-true, ltb-true, ltb-false}
use Rattle.std.proofs.lemmas.List.Sorted.{IsPermutation-refl, IsPermutation-sym, IsPermutation-trans, ranks_by}
use Rattle.std.specs.Cmp.{IsTotalOrder}
use Rattle.std.specs.List.{filter, flat_map}
use Rattle.std.specs.Ordering.{is_lt, ordering_then}
use Rattle.std.specs.Prelude.{IfSome, if◌then◌else◌, slice_index_or}
use Rattle.qs_terms.specs.Bag.{SameBag, once}
use Rattle.qs_terms.specs.Statement.{Statement}
use Rattle.qs_terms.specs.Outcome.{Outcome, OneOrOutOfMemory}
use Rattle.qs_terms.specs.declared.fault.QFault.TheVariants.{TooManyRows}
use Rattle.qs_terms.proofs.FirstOnes.{filter-append}
use Rattle.qs_algebra_solutions.specs.Solution.{Solution, projected, same_solution}
use Rattle.qs_algebra_solutions.specs.inner.Some.{AreSome, AreSomeDistinct, is_enough}
use Rattle.qs_algebra_solutions.specs.declared.answer.Answer.{Answer}
use Rattle.qs_algebra_solutions.proofs.Same.{same_solution-Decides}
use Rattle.qs_expr_values.specs.Sorting as of
use Rattle.qs_query_order.proofs.Total.{lists_total}
use Rattle.qs_query_order.specs.Order.{compare, IsOrdered}
use Rattle.qs_query_order.specs.inner.Order.{compare_by}
use Rattle.qs_query_order.specs.inner.Order.{AreFirstIf}
use Rattle.qs_query_order.specs.inner.Keys.{compare_keys, keys_of}
use Rattle.qs_query_order.specs.declared.condition.OrderCondition.{OrderCondition}
use Rattle.qs_query_solutions.specs.inner.After.{AreSomeAfter}
use Rattle.qs_query_solutions.specs.inner.Ordered.{IsOrderedPart}
use Rattle.qs_query_template.specs.Instances.{made}
use Rattle.qs_query_forms.specs.Outcome.{IsBuilt, IsConstructed}
use Rattle.qs_query_forms.specs.declared.construction.Construction.{Construction}
use Rattle.qs_query_forms.specs.inner.InOrder.{AreEnough, AreListed, AreRest, ByLimit, IsFront, IsGraphOfRest, IsRows, IsRowsOf, Suffices, bounded, projected_where}
use Rattle.qs_query_forms.specs.Sequence.{sliced, listed_rows, count}
use Rattle.qs_query_forms.specs.inner.Sequence.{limited}
use Rattle.qs_query_forms.specs.inner.Sequence.{once_where}
use Rattle.qs_query_forms.specs.declared.selection.Selection.{Selection}
use Rattle.qs_query_forms.proofs.Enough.{graph_from_some, part_same, rows_from_some, same_of_all, too_many, unordered, weaker}
use Rattle.qs_query_forms.proofs.Fronts.{enough_to_select}
use Rattle.qs_query_forms.specs.inner.Placed.{ArePlaced}
use Rattle.qs_query_forms.proofs.Grouped.{all_grouped, all_there, group, grouped_in_order, once_grouped, rows_distinct}
use Rattle.qs_query_forms.proofs.Lengths.{counts_agree}
use Rattle.qs_query_forms.proofs.Places.{compared_alike}
use Rattle.qs_query_forms.proofs.Ordered.{rows_in_order}

-- ---- what more solutions list is after what some list

abbrev more_once : {X : Type 0} → (X → X → Bool) → List X → List X → List X
more_once same [] ys = once same ys
more_once same (x ∷ xs) ys = filter (λ y. not (same x y)) (more_once same xs ys)

once_more : {X : Type 0} (same : X → X → Bool) (xs ys : List X) → once same (xs ++ ys) ≡ once same xs ++ more_once same xs ys
once_more same [] ys = refl
once_more same (x ∷ xs) ys = ap (λ l. x ∷ l) (ap (filter (λ y. not (same x y))) (once_more same xs ys) ∙ filter-append (λ y. not (same x y)) (once same xs) (more_once same xs ys))

abbrev more_where : Bool → List Solution → List Solution → List Solution
more_where true xs ys = more_once same_solution xs ys
more_where false xs ys = ys

where_more : (distinct : Bool) (xs ys : List Solution) → once_where distinct (xs ++ ys) ≡ once_where distinct xs ++ more_where distinct xs ys
where_more true xs ys = once_more same_solution xs ys
where_more false xs ys = refl

length_where : (distinct : Bool) (columns : List ℕ) (rows : List Solution) → length (projected_where distinct columns rows) ≡ length rows
length_where true columns rows = refl
length_where false columns rows = length-map rows (projected columns)

-- ---- rows that may be too many

bounded_at : (max_rows : ℕ) (rows : List Solution) (o : Outcome (List Solution)) (b : Bool) → nat_lt max_rows (length rows) ≡ b → o ≡ (if b then Err TooManyRows else Ok rows) → ((max_rows < length rows) × (o ≡ Err TooManyRows)) ⊎ ((length rows ≤ max_rows) × (o ≡ Ok rows))
bounded_at max_rows rows o true e h = inl (ltb-true max_rows (length rows) e, h)
bounded_at max_rows rows o false e h = inr (ltb-false max_rows (length rows) e, h)

refused : (max_rows : ℕ) (rows : List Solution) (o : Outcome (List Solution)) → max_rows < length rows → ((max_rows < length rows) × (o ≡ Err TooManyRows)) ⊎ ((length rows ≤ max_rows) × (o ≡ Ok rows)) → o ≡ Err TooManyRows
refused max_rows rows o l (inl p) = p.1
refused max_rows rows o l (inr p) = absurd (omega (arith, l, p.0))

-- ---- the sequence

module _ (asked : Selection) (solutions : List Solution) (max_rows : ℕ) (outcome : Outcome (List Solution)) where
  abbrev Bounded : List Solution → Type 0
  Bounded rows = OneOrOutOfMemory (λ o. o ≡ bounded max_rows rows) outcome

  of_all : (all : List Solution) → asked.order ≡ [] → SameBag all solutions → Bounded (sliced asked.slice (listed_rows asked all)) → OneOrOutOfMemory (IsRows asked solutions max_rows) outcome
  of_all all none same due =
      let part : List Solution = sliced asked.slice (listed_rows asked all) in
      rows_in_order asked solutions max_rows all outcome (same, unordered asked.order all none)
      (weaker (λ o. o ≡ bounded max_rows part) (IsRowsOf asked max_rows all) (λ o h. bounded_at max_rows part o (nat_lt max_rows (length part)) refl h) outcome due)

  module _ (some rest found : List Solution) (none : asked.order ≡ []) (bag : SameBag solutions (some ++ rest)) (are : projected_where asked.is_distinct asked.columns found ≡ listed_rows asked some) (due : Bounded (sliced asked.slice (listed_rows asked some))) where
    abbrev L : List Solution
    L = listed_rows asked some

    abbrev more : List Solution
    more = more_where asked.is_distinct (map (projected asked.columns) some) (map (projected asked.columns) rest)

    all_listed : listed_rows asked (some ++ rest) ≡ L ++ more
    all_listed = ap (once_where asked.is_distinct) (map-append (projected asked.columns) some rest) ∙ where_more asked.is_distinct (map (projected asked.columns) some) (map (projected asked.columns) rest)

    long : length L ≡ length found
    long = ap length (sym are) ∙ length_where asked.is_distinct asked.columns found

    by_limit : (n : ℕ) → n ≤ length found → ByLimit asked.slice asked.order max_rows n → OneOrOutOfMemory (IsRows asked solutions max_rows) outcome
    by_limit n l (inl a) =
        let part : List Solution = sliced asked.slice L in
        let many : max_rows < length part = too_many asked.slice L max_rows a.0 (omega (arith, a.1, l, long)) in
        let all_many : max_rows < length (sliced asked.slice (L ++ more)) = too_many asked.slice (L ++ more) max_rows a.0 (omega (arith, a.1, l, long, length-append L more)) in
        let counted : max_rows < count asked (some ++ rest) = subst (λ (rows : List Solution). max_rows < length (sliced asked.slice rows)) (sym all_listed) all_many in
        let of_solutions : max_rows < count asked solutions = subst (λ (n : ℕ). max_rows < n) (sym (counts_agree asked solutions (some ++ rest) bag)) counted in
        weaker (λ o. o ≡ bounded max_rows part) (IsRows asked solutions max_rows)
        (λ o h. inl (of_solutions, refused max_rows part o many (bounded_at max_rows part o (nat_lt max_rows (length part)) refl h))) outcome due
    by_limit n l (inr b) =
        let part : sliced asked.slice L ≡ sliced asked.slice (listed_rows asked (some ++ rest)) = part_same asked.slice L more b.1 b.2 (omega (arith, b.3, l, long)) ∙ ap (sliced asked.slice) (sym all_listed) in
        of_all (some ++ rest) none (IsPermutation-sym solutions (some ++ rest) bag) (subst Bounded part due)

    at_most : (most : Option ℕ) → IfSome most (ByLimit asked.slice asked.order max_rows) → is_enough most (length found) ≡ true → OneOrOutOfMemory (IsRows asked solutions max_rows) outcome
    at_most None few e = absurd (true≢false (sym e))
    at_most (Some n) few e = by_limit n (leb-true n (length found) e) few

  pub rows_from_listed : (most : Option ℕ) (found : List Solution) → asked.order ≡ [] → AreListed asked most found solutions → IfSome most (ByLimit asked.slice asked.order max_rows) → Bounded (sliced asked.slice (projected_where asked.is_distinct asked.columns found))
      → OneOrOutOfMemory (IsRows asked solutions max_rows) outcome
  rows_from_listed most found none h few due =
      let part : Bounded (sliced asked.slice (listed_rows asked h.0)) = subst (λ (rows : List Solution). Bounded (sliced asked.slice rows)) h.3 due in
      elim h.4 as (λ _. OneOrOutOfMemory (IsRows asked solutions max_rows) outcome) [
        | inl e ↦ of_all h.0 none (same_of_all h.0 solutions h.1 h.2 e) part
        | inr e ↦ at_most h.0 h.1 found none h.2 h.3 part most few e
      ]

-- ---- what is found

module _ (asked : Selection) (most : Option ℕ) (rows solutions : List Solution) where
  pub distinct_listed : asked.is_distinct ≡ true → AreSomeDistinct asked.columns most rows solutions → AreListed asked most rows solutions
  distinct_listed is h = (
    h.0,
    h.1,
    h.2,
    ap (λ (b : Bool). projected_where b asked.columns rows) is ∙ (h.3 ∙ sym (ap (λ (b : Bool). once_where b (map (projected asked.columns) h.0)) is)),
    h.4,
  )

  pub plainly_listed : asked.is_distinct ≡ false → AreSome most rows solutions → AreListed asked most rows solutions
  plainly_listed is h = (
    rows,
    h.0,
    h.1,
    ap (λ (b : Bool). projected_where b asked.columns rows) is ∙ sym (ap (λ (b : Bool). once_where b (map (projected asked.columns) rows)) is),
    h.2,
  )

-- ---- the part

sure : {A : Type 0} (o due : Outcome A) → o ≡ due → OneOrOutOfMemory (λ x. x ≡ due) o
sure (Ok a) due h = h
sure (Err e) due h = λ other. h

-- rows without duplicates are projected already
pub part_listed : (asked : Selection) (rows : List Solution) (max_rows : ℕ) (outcome : Outcome (List Solution)) → asked.is_distinct ≡ true → outcome ≡ bounded max_rows (sliced asked.slice rows) → OneOrOutOfMemory (λ o. o ≡ bounded max_rows (sliced asked.slice (projected_where asked.is_distinct asked.columns rows))) outcome
part_listed asked rows max_rows outcome is e =
    sure outcome (bounded max_rows (sliced asked.slice (projected_where asked.is_distinct asked.columns rows)))
    (e ∙ sym (ap (λ (b : Bool). bounded max_rows (sliced asked.slice (projected_where b asked.columns rows))) is))

-- and others were projected after the OFFSET
pub part_after : (asked : Selection) (some rows : List Solution) (max_rows : ℕ) (outcome : Outcome (List Solution)) → asked.is_distinct ≡ false → rows ≡ map (projected asked.columns) (drop asked.slice.offset some) → outcome ≡ bounded max_rows (limited asked.slice.limit rows) → OneOrOutOfMemory (λ o. o ≡ bounded max_rows (sliced asked.slice (projected_where asked.is_distinct asked.columns some))) outcome
part_after asked some rows max_rows outcome is r e =
    let after : rows ≡ drop asked.slice.offset (map (projected asked.columns) some) = r ∙ sym (drop-map (projected asked.columns) asked.slice.offset some) in
    sure outcome (bounded max_rows (sliced asked.slice (projected_where asked.is_distinct asked.columns some)))
    (e ∙ (ap (λ (l : List Solution). bounded max_rows (limited asked.slice.limit l)) after
    ∙ sym (ap (λ (b : Bool). bounded max_rows (sliced asked.slice (projected_where b asked.columns some))) is)))

pub many_rows : (rows : List Solution) (max_rows : ℕ) → max_rows < length rows → Err TooManyRows ≡ bounded max_rows rows
many_rows rows max_rows h = let t : nat_lt max_rows (length rows) ≡ true = grind (arith, nat_tests, h) in rw t refl

pub few_rows : (rows : List Solution) (max_rows : ℕ) → length rows ≤ max_rows → Ok rows ≡ bounded max_rows rows
few_rows rows max_rows h = let t : nat_lt max_rows (length rows) ≡ false = grind (arith, nat_tests, h) in rw t refl

-- ---- rows that were put in order as they were found

front_of : (cs : List OrderCondition) (count : Option ℕ) (some first : List Solution) → AreFirstIf cs count some first → IsFront cs some count first
front_of cs None some first h = (first, h, refl)
front_of cs (Some n) some first h = (h.0, (h.1, h.2), h.3)

plain_rows : (asked : Selection) (rows : List Solution) → asked.is_distinct ≡ false → projected_where asked.is_distinct asked.columns rows ≡ listed_rows asked rows
plain_rows asked rows is = ap (λ (b : Bool). projected_where b asked.columns rows) is ∙ sym (ap (λ (b : Bool). once_where b (map (projected asked.columns) rows)) is)

enough_for : (most : Option ℕ) (asked : Selection) (max_rows : ℕ) → asked.is_distinct ≡ false → IfSome most (ByLimit asked.slice asked.order max_rows) → IfSome most (AreEnough asked max_rows)
enough_for None asked max_rows is h = tt
enough_for (Some n) asked max_rows is h = (is, h)

module _ (asked : Selection) (solutions rows : List Solution) (max_rows : ℕ) (outcome : Outcome (List Solution)) where
  pub ordered_rows : (count most : Option ℕ) → asked.is_distinct ≡ false → IsOrderedPart asked.order (Some asked.columns) asked.slice.offset count most rows solutions → Suffices asked.slice count → IfSome most (ByLimit asked.slice asked.order max_rows)
      → outcome ≡ bounded max_rows (limited asked.slice.limit rows) → OneOrOutOfMemory (IsRows asked solutions max_rows) outcome
  ordered_rows count most is h suffices few e =
      let first : List Solution = h.1 in
      let part : List Solution = sliced asked.slice (listed_rows asked first) in
      let due : OneOrOutOfMemory (λ o. o ≡ bounded max_rows part) outcome =
      subst (λ (l : List Solution). OneOrOutOfMemory (λ o. o ≡ bounded max_rows (sliced asked.slice l)) outcome) (plain_rows asked first is) (part_after asked first rows max_rows outcome is h.4 e) in
      rows_from_some asked solutions h.0 first count most max_rows outcome (front_of asked.order count h.0 first h.3) h.2 (enough_for most asked max_rows is few) (enough_to_select asked count is suffices)
      (weaker (λ o. o ≡ bounded max_rows part) (IsRowsOf asked max_rows first) (λ o k. bounded_at max_rows part o (nat_lt max_rows (length part)) refl k) outcome due)

  -- all of them, of which any may be a duplicate
  pub ordered_all : (all : List Solution) → all ≡ rows → IsOrderedPart asked.order None 0 None None rows solutions → OneOrOutOfMemory (IsRowsOf asked max_rows all) outcome → OneOrOutOfMemory (IsRows asked solutions max_rows) outcome
  ordered_all all e h due =
      let is : all ≡ h.1 = e ∙ (h.4 ∙ map-id h.1) in
      rows_from_some asked solutions h.0 h.1 None None max_rows outcome (front_of asked.order None h.0 h.1 h.3) h.2 tt (λ xs. refl) (subst (λ (l : List Solution). OneOrOutOfMemory (IsRowsOf asked max_rows l) outcome) is due)

-- ---- the graph of a CONSTRUCT

module _ (asked : Construction) (max_rows : ℕ) (rows solutions : List Solution) where
  pub rest_ordered : (count most : Option ℕ) → IsOrderedPart asked.order None asked.slice.offset count most rows solutions → Suffices asked.slice count → IfSome most (ByLimit asked.slice asked.order max_rows) → AreRest asked max_rows rows solutions
  rest_ordered count most h suffices few =
      (count, most, h.0, h.1, h.2, few, front_of asked.order count h.0 h.1 h.3, suffices, h.4 ∙ map-id (drop asked.slice.offset h.1))

  pub rest_unordered : (most : Option ℕ) → asked.order ≡ [] → AreSomeAfter None asked.slice.offset most rows solutions → IfSome most (ByLimit asked.slice asked.order max_rows) → AreRest asked max_rows rows solutions
  rest_unordered most none h few =
      (None, most, h.0, h.0, h.1, few, (h.0, (IsPermutation-refl h.0, unordered asked.order h.0 none), refl), λ xs. refl, h.2 ∙ map-id (drop asked.slice.offset h.0))

module _ (asked : Construction) (next max_rows : ℕ) (rest : List Solution) where
  pub built_rest : (part : List Solution) (quads : List Statement) (answer : Answer) → part ≡ limited asked.slice.limit rest → length part ≤ max_rows → made asked.template next part ≡ Ok quads → IsBuilt (Ok quads) (Ok answer) → IsGraphOfRest asked next max_rows rest (Ok answer)
  built_rest part quads answer is few due b =
      inr (subst (λ (l : List Solution). length l ≤ max_rows) is few, subst (λ (o : Outcome (List Statement)). IsBuilt o (Ok answer)) (sym (ap (made asked.template next) (sym is) ∙ due)) b)

  pub graph_from_rest : (solutions : List Solution) (answer : Outcome Answer) → AreRest asked max_rows rest solutions → OneOrOutOfMemory (IsGraphOfRest asked next max_rows rest) answer → OneOrOutOfMemory (IsConstructed asked next solutions max_rows) answer
  graph_from_rest solutions answer h due =
      graph_from_some asked next solutions h.2 h.3 h.0 h.1 max_rows answer h.6 h.4 h.5 h.7
      (subst (λ (l : List Solution). OneOrOutOfMemory (λ o. ((max_rows < length (limited asked.slice.limit l)) × (o ≡ Err TooManyRows)) ⊎ ((length (limited asked.slice.limit l) ≤ max_rows) × IsBuilt (made asked.template next (limited asked.slice.limit l)) o)) answer) h.8 due)

-- ---- distinct rows that were put in order in place of their solutions

by_keys : (cs : List OrderCondition) (a b : Solution) → compare_keys cs (keys_of cs a) (keys_of cs b) ≡ compare cs a b
by_keys [] a b = refl
by_keys (c ∷ cs) a b = ap (ordering_then (compare_by c a b)) (by_keys cs a b)

module _ (asked : Selection) (solutions found rows : List Solution) (max_rows : ℕ) (outcome : Outcome (List Solution)) (ds : List OrderCondition) (count : Option ℕ) where
  pub distinct_rows : IsTotalOrder of.compare_keys → asked.is_distinct ≡ true → ArePlaced asked.columns asked.order ds → AreSomeDistinct asked.columns None found solutions → AreFirstIf ds count found rows → Suffices asked.slice count
      → outcome ≡ bounded max_rows (sliced asked.slice rows) → OneOrOutOfMemory (IsRows asked solutions max_rows) outcome
  distinct_rows t is placed h first suffices e =
      let p : Solution → Solution = projected asked.columns in
      let some : List Solution = h.0 in
      let front : IsFront ds found count rows = front_of ds count found rows first in
      let order : List Solution = front.0 in
      let bag : SameBag order (once same_solution (map p some)) = subst (SameBag order) h.3 front.1.0 in
      let all : List Solution = flat_map (group same_solution same_solution-Decides p some) order in
      let those : SameBag all solutions = IsPermutation-trans all some solutions (all_grouped same_solution same_solution-Decides p some order bag) (all_of h.1 h.2 h.4) in
      let listed : once same_solution (map p all) ≡ order =
      once_grouped same_solution same_solution-Decides p some order (rows_distinct same_solution same_solution-Decides p some order bag) (all_there same_solution same_solution-Decides p some order bag) in
      let lower : Solution → Solution → Bool = λ a b. is_lt (compare asked.order a b) in
      let lower_row : Solution → Solution → Bool = λ a b. is_lt (compare_keys ds (keys_of ds a) (keys_of ds b)) in
      let in_order : IsOrdered asked.order all =
      grouped_in_order same_solution same_solution-Decides p some lower lower_row (ranks_by (lists_total t ds) (keys_of ds)) (λ a b. ap is_lt (by_keys ds (p a) (p b) ∙ compared_alike asked.columns asked.order ds placed a b)) order
      (λ i j d k l. ap is_lt (by_keys ds (slice_index_or order j d) (slice_index_or order i d)) ∙ front.1.1 i j d k l) in
      let part : List Solution = sliced asked.slice (listed_rows asked all) in
      let of_all_rows : listed_rows asked all ≡ order = ap (λ (b : Bool). once_where b (map p all)) is ∙ listed in
      let same : sliced asked.slice rows ≡ part = ap (sliced asked.slice) front.2 ∙ (suffices order ∙ sym (ap (sliced asked.slice) of_all_rows)) in
      rows_in_order asked solutions max_rows all outcome (those, in_order)
      (weaker (λ o. o ≡ bounded max_rows part) (IsRowsOf asked max_rows all) (λ o k. bounded_at max_rows part o (nat_lt max_rows (length part)) refl k) outcome (sure outcome (bounded max_rows part) (e ∙ ap (bounded max_rows) same)))
    where
      all_of : (rest : List Solution) → SameBag solutions (h.0 ++ rest) → (rest ≡ []) ⊎ (false ≡ true) → SameBag h.0 solutions
      all_of rest b (inl q) = same_of_all h.0 solutions rest b q
      all_of rest b (inr q) = absurd (true≢false (sym q))
