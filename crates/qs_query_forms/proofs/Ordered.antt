-- From the solutions in the order in which they were found to an answer.
use Rattle.std.proofs.Common.{◌≡◌, nat_lt, if◌then◌else◌, ◌<◌, ◌≤◌, ℕ, Bool, true, false, not, ◌==◌, List, [], ◌∷◌, drop, length, map, Option, Some, None, Ok, Err, refl, sym, ap, ◌∙◌, subst, inl, inr, arith}
use Rattle.std.specs.Borrow.{Bor}
use Rattle.std.proofs.lemmas.Bool.{eqb-true, ltb-true, ltb-false}
use Rattle.std.proofs.lemmas.List.{take-map, drop-map, length-map}
use Rattle.std.proofs.lemmas.List.Sorted.{length_permutation, IsPermutation-trans}
use Rattle.qs_terms.specs.Bag.{SameBag}
use Rattle.qs_terms.specs.Dataset.{Dataset, Triple}
use Rattle.qs_terms.specs.Outcome.{Outcome, OneOrOutOfMemory}
use Rattle.qs_terms.specs.Statement.{Statement}
use Rattle.qs_terms.specs.declared.fault.QFault.{QFault}
use Rattle.qs_terms.specs.declared.fault.QFault.TheVariants.{TooManyRows}
use Rattle.qs_algebra_solutions.specs.Solution.{Solution, projected}
use Rattle.qs_algebra_solutions.specs.declared.answer.Answer.{Answer}
use Rattle.qs_algebra_solutions.specs.declared.answer.Answer.TheVariants.{Solutions}
use Rattle.qs_syntax_ast.specs.declared.query.Query.{Query}
use Rattle.qs_syntax_scope.specs.Names.{Name}
use Rattle.qs_algebra_patterns.specs.declared.named_pattern.Pattern.{Pattern}
use Rattle.qs_base.specs.inner.Lent.{lent}
use Rattle.qs_query_order.specs.Order.{IsOrdered}
use Rattle.qs_query_order.specs.declared.condition.OrderCondition.{OrderCondition}
use Rattle.qs_query_template.specs.Instances.{made}
use Rattle.qs_query_forms.specs.inner.InOrder.{IsRowsOf, IsRows, IsGraphOf, bounded, AreFew, with_vars}
use Rattle.qs_query_forms.specs.Outcome.{IsSelected, IsBuilt, IsConstructed, IsAnswered, IsOutcomeOfQuery}
use Rattle.qs_query_forms.specs.inner.Outcome.{IsAllSolutions}
use Rattle.qs_query_forms.specs.inner.Request.{request}
use Rattle.qs_query_forms.specs.Sequence.{whole, sliced, listed_rows, IsInOrder, count, has_solution}
use Rattle.qs_query_forms.specs.inner.Sequence.{limited}
use Rattle.qs_query_forms.specs.declared.construction.Construction.{Construction}
use Rattle.qs_query_forms.specs.declared.request.Request.{Request}
use Rattle.qs_query_forms.specs.declared.request.Request.TheVariants.{Select, Construct}
use Rattle.qs_query_forms.specs.declared.selection.Selection.{Selection}
use Rattle.qs_query_forms.specs.declared.modifiers.Slice.{Slice}
use Rattle.qs_query_forms.proofs.Lengths.{sliced_length, counts_agree}

module _ {X Y : Type 0} (f : X → Y) where
  pub map_limited : (limit : Option ℕ) (xs : List X) → map f (limited limit xs) ≡ limited limit (map f xs)
  map_limited None xs = refl
  map_limited (Some n) xs = sym (take-map f n xs)

  -- what is done to each element alone may be done to the slice
  pub map_sliced : (slice : Slice) (xs : List X) → map f (sliced slice xs) ≡ sliced slice (map f xs)
  map_sliced slice xs = map_limited slice.limit (drop slice.offset xs) ∙ ap (limited slice.limit) (sym (drop-map f slice.offset xs))

-- the rows that were listed, sliced and then projected
module _ (asked : Selection) (all : List Solution) (listed part : List (Bor Solution)) (are : map (projected asked.columns) (lent listed) ≡ listed_rows asked all) (is : part ≡ sliced asked.slice listed) where
  part_rows : map (projected asked.columns) (lent part) ≡ sliced asked.slice (listed_rows asked all)
  part_rows =
      ap (λ l. map (projected asked.columns) (lent l)) is
      ∙ ap (map (projected asked.columns)) (map_sliced (λ (r : Bor Solution). r.now) asked.slice listed)
      ∙ map_sliced (projected asked.columns) asked.slice (lent listed)
      ∙ ap (sliced asked.slice) are

  part_count : length part ≡ count asked all
  part_count = sym (length-map part (λ (r : Bor Solution). r.now)) ∙ sym (length-map (lent part) (projected asked.columns)) ∙ ap length part_rows

  pub few : (max_rows : ℕ) (rows : List Solution) → length part ≤ max_rows → rows ≡ map (projected asked.columns) (lent part) → IsRowsOf asked max_rows all (Ok rows)
  few max_rows rows h e = inr (subst (λ (n : ℕ). n ≤ max_rows) part_count h, ap Ok (e ∙ part_rows))

-- solutions that were put in order
pub put_in_order : (conditions : List OrderCondition) (all found solutions : List Solution) → SameBag all found × IsOrdered conditions all → SameBag found solutions → IsInOrder conditions solutions all
put_in_order conditions all found solutions h k = (IsPermutation-trans all found solutions h.0 k, h.1)

-- rows in an order of the solutions are a sequence
module _ (asked : Selection) (solutions : List Solution) (max_rows : ℕ) where
  pub rows_in_order : (all : List Solution) (rows : Outcome (List Solution)) → IsInOrder asked.order solutions all → OneOrOutOfMemory (IsRowsOf asked max_rows all) rows → OneOrOutOfMemory (IsRows asked solutions max_rows) rows
  rows_in_order all (Ok rows) h due = inr (all, h, due)
  rows_in_order all (Err f) h due = λ other. inr (all, h, due other)

  of_fault_at : (f : QFault) (all : List Solution) → IsInOrder asked.order solutions all → IsRowsOf asked max_rows all (Err f) → IsSelected asked solutions max_rows (Err f)
  of_fault_at f all h (inl p) = inl (subst (λ (n : ℕ). max_rows < n) (counts_agree asked all solutions h.0) p.0, let e : f ≡ TooManyRows = cc in ap Err e)
  of_fault_at f all h (inr p) = absurd (let e : Err f ≡ Ok (sliced asked.slice (listed_rows asked all)) = p.1 in cc)

  of_rows_at : (rows all : List Solution) → IsInOrder asked.order solutions all → IsRowsOf asked max_rows all (Ok rows) → IsSelected asked solutions max_rows (Ok (Solutions asked.vars rows))
  of_rows_at rows all h (inl p) = absurd (let e : Ok rows ≡ Err TooManyRows = p.1 in cc)
  of_rows_at rows all h (inr p) =
      inr (subst (λ (n : ℕ). n ≤ max_rows) (counts_agree asked all solutions h.0) p.0, rows, (all, h, let e : rows ≡ sliced asked.slice (listed_rows asked all) = cc in e), refl)

  of_rows : (rows : List Solution) → IsRows asked solutions max_rows (Ok rows) → IsSelected asked solutions max_rows (Ok (Solutions asked.vars rows))
  of_rows rows (inl p) = absurd (let e : Ok rows ≡ Err TooManyRows = p.1 in cc)
  of_rows rows (inr d) = of_rows_at rows d.0 d.1 d.2

  of_fault : (f : QFault) → IsRows asked solutions max_rows (Err f) → IsSelected asked solutions max_rows (Err f)
  of_fault f (inl p) = inl (p.0, let e : f ≡ TooManyRows = cc in ap Err e)
  of_fault f (inr d) = of_fault_at f d.0 d.1 d.2

  pub selected_at : (rows : Outcome (List Solution)) → OneOrOutOfMemory (IsRows asked solutions max_rows) rows → OneOrOutOfMemory (IsSelected asked solutions max_rows) (with_vars asked.vars rows)
  selected_at (Ok rows) due = of_rows rows due
  selected_at (Err f) due = λ other. of_fault f (due other)

  pub selected : (rows : Outcome (List Solution)) (answer : Outcome Answer) → OneOrOutOfMemory (IsRows asked solutions max_rows) rows → answer ≡ with_vars asked.vars rows → OneOrOutOfMemory (IsSelected asked solutions max_rows) answer
  selected rows answer due is = subst (λ (o : Outcome Answer). OneOrOutOfMemory (IsSelected asked solutions max_rows) o) (sym is) (selected_at rows due)

-- ---- the graph of a CONSTRUCT

module _ (asked : Construction) (next max_rows : ℕ) where
  pub built : (all part : List (Bor Solution)) (quads : List Statement) (answer : Answer) → part ≡ sliced asked.slice all → length part ≤ max_rows → made asked.template next (lent part) ≡ Ok quads → IsBuilt (Ok quads) (Ok answer)
      → IsGraphOf asked next max_rows (lent all) (Ok answer)
  built all part quads answer is few due b =
      let same : lent part ≡ sliced asked.slice (lent all) = ap lent is ∙ map_sliced (λ (r : Bor Solution). r.now) asked.slice all in
      inr (
        subst (λ (n : ℕ). n ≤ max_rows) (sym (length-map part (λ (r : Bor Solution). r.now)) ∙ ap length same) few,
        subst (λ (o : Outcome (List Statement)). IsBuilt o (Ok answer)) (sym (ap (made asked.template next) (sym same) ∙ due)) b,
      )

  module _ (solutions all : List Solution) (in_order : IsInOrder asked.order solutions all) where
    lengths : length (sliced asked.slice all) ≡ length (sliced asked.slice solutions)
    lengths = sliced_length asked.slice all solutions (sym (length_permutation all solutions in_order.0))

    graph_at : (answer : Outcome Answer) → IsGraphOf asked next max_rows all answer → IsConstructed asked next solutions max_rows answer
    graph_at answer (inl p) = inl (subst (λ (n : ℕ). max_rows < n) lengths p.0, p.1)
    graph_at answer (inr p) = inr (subst (λ (n : ℕ). n ≤ max_rows) lengths p.0, sliced asked.slice all, (all, in_order, refl), p.1)

    pub constructed : (answer : Outcome Answer) → OneOrOutOfMemory (IsGraphOf asked next max_rows all) answer → OneOrOutOfMemory (IsConstructed asked next solutions max_rows) answer
    constructed (Ok a) due = graph_at (Ok a) due
    constructed (Err f) due = λ other. graph_at (Err f) (due other)

-- ---- whether there is a solution

has_at : (xs ys : List Solution) → length ys ≡ length xs → has_solution xs ≡ has_solution ys
has_at [] [] h = refl
has_at [] (y ∷ ys) h = absurd (omega arith)
has_at (x ∷ xs) [] h = absurd (omega arith)
has_at (x ∷ xs) (y ∷ ys) h = refl

pub counted : (xs : List Solution) (n : ℕ) (b : Bool) → length xs ≡ n → (n == 0) ≡ b → not b ≡ has_solution xs
counted [] n b e is = ap not (sym is ∙ ap (λ k. k == 0) (sym e))
counted (x ∷ xs) n true e is = absurd (let z : n ≡ 0 = eqb-true n 0 is in omega arith)
counted (x ∷ xs) n false e is = refl

pub has_any : (xs solutions : List Solution) (n : ℕ) (b : Bool) → SameBag xs solutions → length xs ≡ n → b ≡ (n == 0) → not b ≡ has_solution solutions
has_any xs solutions n b h e is = counted xs n b e (sym is) ∙ has_at xs solutions (length_permutation xs solutions h)

-- ---- all solutions

module _ (pattern : Pattern) (solutions : List Solution) (max_rows : ℕ) where
  all_at : (rows all : List Solution) → SameBag all solutions → Ok rows ≡ bounded max_rows all → IsAllSolutions pattern solutions max_rows (Ok (Solutions pattern.names rows))
  all_at rows all h e = by (nat_lt max_rows (length all)) refl e
    where
      by : (b : Bool) → nat_lt max_rows (length all) ≡ b → Ok rows ≡ (if b then Err TooManyRows else Ok all) → IsAllSolutions pattern solutions max_rows (Ok (Solutions pattern.names rows))
      by true is k = absurd (let f : Ok rows ≡ Err TooManyRows = k in cc)
      by false is k =
          let same : rows ≡ all = cc in
          let le : length all ≤ max_rows = ltb-false max_rows (length all) is in
          inr (subst (λ (n : ℕ). n ≤ max_rows) (sym (length_permutation all solutions h)) le, rows, subst (λ (l : List Solution). SameBag l solutions) (sym same) h, refl)

  many_at : (f : QFault) (all : List Solution) → SameBag all solutions → Err f ≡ bounded max_rows all → IsAllSolutions pattern solutions max_rows (Err f)
  many_at f all h e = by (nat_lt max_rows (length all)) refl e
    where
      by : (b : Bool) → nat_lt max_rows (length all) ≡ b → Err f ≡ (if b then Err TooManyRows else Ok all) → IsAllSolutions pattern solutions max_rows (Err f)
      by true is k =
          let g : Err f ≡ Err TooManyRows = k in
          let e : f ≡ TooManyRows = cc in
          inl (subst (λ (n : ℕ). max_rows < n) (sym (length_permutation all solutions h)) (ltb-true max_rows (length all) is), ap Err e)
      by false is k = absurd (let g : Err f ≡ Ok all = k in cc)

  all_with : (rows : Outcome (List Solution)) → OneOrOutOfMemory (AreFew solutions max_rows) rows → OneOrOutOfMemory (IsAllSolutions pattern solutions max_rows) (with_vars pattern.names rows)
  all_with (Ok rows) due = all_at rows due.0 due.1 due.2
  all_with (Err f) due = λ other. many_at f (due other).0 (due other).1 (due other).2

  pub all_named : (vars : List Name) (rows : Outcome (List Solution)) (answer : Outcome Answer) → vars ≡ pattern.names → OneOrOutOfMemory (AreFew solutions max_rows) rows → answer ≡ with_vars vars rows
      → OneOrOutOfMemory (IsAllSolutions pattern solutions max_rows) answer
  all_named vars rows answer names due is =
      subst (λ (o : Outcome Answer). OneOrOutOfMemory (IsAllSolutions pattern solutions max_rows) o) (sym (is ∙ ap (λ vs. with_vars vs rows) names)) (all_with rows due)

-- ---- the form of the query

module _ (query : Query) (d : Dataset) (graph : List Triple) (max_rows : ℕ) (answer : Outcome Answer) where
  of_request : (asked : Request) → request query ≡ asked → OneOrOutOfMemory (IsAnswered asked d graph max_rows) answer → OneOrOutOfMemory (IsOutcomeOfQuery query d graph max_rows) answer
  of_request asked is due = subst (λ (r : Request). OneOrOutOfMemory (IsAnswered r d graph max_rows) answer) (sym is) due

  pub of_select : (asked : Selection) → request query ≡ Select asked → OneOrOutOfMemory (IsSelected asked (whole asked.pattern d.quads graph) max_rows) answer → OneOrOutOfMemory (IsOutcomeOfQuery query d graph max_rows) answer
  of_select asked is due = of_request (Select asked) is due

  pub of_construct : (asked : Construction) → request query ≡ Construct asked → OneOrOutOfMemory (IsConstructed asked d.next (whole asked.pattern d.quads graph) max_rows) answer → OneOrOutOfMemory (IsOutcomeOfQuery query d graph max_rows) answer
  of_construct asked is due = of_request (Construct asked) is due
