-- The first solutions in order suffice for a slice.
use Rattle.std.proofs.Common.{◌≡◌, ◌+◌, ◌-◌, ◌<◌, ◌≤◌, ◌⊎◌, ℕ, Bool, false, List, length, take, drop, map, Option, Some, None, Ok, Err, refl, sym, ap, ◌∙◌, subst, arith}
use Rattle.std.proofs.lemmas.List.{drop-take, take-take}
use Rattle.std.specs.Prelude.{SomeIff}
use Rattle.qs_terms.specs.Bag.{SameBag}
use Rattle.qs_terms.specs.Outcome.{Outcome, OneOrOutOfMemory}
use Rattle.qs_terms.specs.declared.fault.QFault.TheVariants.{TooManyRows}
use Rattle.qs_algebra_solutions.specs.Solution.{Solution, projected}
use Rattle.qs_algebra_solutions.specs.declared.answer.Answer.{Answer}
use Rattle.qs_query_template.specs.Instances.{made}
use Rattle.qs_query_forms.specs.inner.InOrder.{IsFront, Suffices, SufficesToSelect, IsRowsOf, IsRows, IsGraphOf}
use Rattle.qs_query_forms.specs.Outcome.{IsBuilt, IsConstructed}
use Rattle.qs_query_forms.specs.Sequence.{sliced, listed_rows}
use Rattle.qs_query_forms.specs.inner.Sequence.{limited}
use Rattle.qs_query_forms.specs.inner.Sequence.{once_where}
use Rattle.qs_query_forms.specs.declared.construction.Construction.{Construction}
use Rattle.qs_query_forms.specs.declared.modifiers.Slice.{Slice}
use Rattle.qs_query_forms.specs.declared.selection.Selection.{Selection}
use Rattle.qs_query_forms.proofs.Ordered.{map_limited, put_in_order, rows_in_order, constructed}

-- the part between, of a front that reaches as far
inside : (first limit n : ℕ) (xs : List Solution) → first + limit ≤ n → take limit (drop first (take n xs)) ≡ take limit (drop first xs)
inside first limit n xs h =
    let n' : n ≡ first + (n - first) = omega (arith, h) in
    ap (λ k. take limit (drop first (take k xs))) n' ∙ ap (take limit) (drop-take first (n - first) xs) ∙ take-take limit (n - first) (drop first xs) (omega (arith, h))

pub enough : (slice : Slice) (limit n : ℕ) → slice.limit ≡ Some limit → slice.offset + limit ≤ n → Suffices slice (Some n)
enough slice limit n e h xs =
    ap (λ (l : Option ℕ). limited l (drop slice.offset (take n xs))) e ∙ inside slice.offset limit n xs h ∙ sym (ap (λ (l : Option ℕ). limited l (drop slice.offset xs)) e)

pub enough_or_all : (slice : Slice) (limit : ℕ) (P : Type 0) (count : Option ℕ) → slice.limit ≡ Some limit → SomeIff count P (slice.offset + limit) → Suffices slice count
enough_or_all slice limit P None e h xs = refl
enough_or_all slice limit P (Some n) e h xs = let is : n ≡ slice.offset + limit = h.1 in enough slice limit n e (omega (arith, is)) xs

-- each solution is listed, where duplicates are kept
pub enough_to_select : (asked : Selection) (count : Option ℕ) → asked.is_distinct ≡ false → Suffices asked.slice count → SufficesToSelect asked count
enough_to_select asked count e h xs =
    let rows = map (projected asked.columns) in
    ap (λ (b : Bool). sliced asked.slice (once_where b (rows (limited count xs)))) e
    ∙ ap (sliced asked.slice) (map_limited (projected asked.columns) count xs)
    ∙ h (rows xs)
    ∙ sym (ap (λ (b : Bool). sliced asked.slice (once_where b (rows xs))) e)

-- what becomes of the front becomes of all
pub rows_from_front : (asked : Selection) (solutions found front : List Solution) (count : Option ℕ) (max_rows : ℕ) (rows : Outcome (List Solution)) → IsFront asked.order found count front → SameBag found solutions → SufficesToSelect asked count
    → OneOrOutOfMemory (IsRowsOf asked max_rows front) rows → OneOrOutOfMemory (IsRows asked solutions max_rows) rows
rows_from_front asked solutions found front count max_rows rows h same enough due =
    let part : sliced asked.slice (listed_rows asked front) ≡ sliced asked.slice (listed_rows asked h.0) = ap (λ l. sliced asked.slice (listed_rows asked l)) h.2 ∙ enough h.0 in
    rows_in_order asked solutions max_rows h.0 rows (put_in_order asked.order h.0 found solutions h.1 same)
    (subst (λ (p : List Solution). OneOrOutOfMemory (λ o. ((max_rows < length p) × (o ≡ Err TooManyRows)) ⊎ ((length p ≤ max_rows) × (o ≡ Ok p))) rows) part due)

pub graph_from_front : (asked : Construction) (next : ℕ) (solutions found front : List Solution) (count : Option ℕ) (max_rows : ℕ) (answer : Outcome Answer) → IsFront asked.order found count front → SameBag found solutions → Suffices asked.slice count
    → OneOrOutOfMemory (IsGraphOf asked next max_rows front) answer → OneOrOutOfMemory (IsConstructed asked next solutions max_rows) answer
graph_from_front asked next solutions found front count max_rows answer h same enough due =
    let part : sliced asked.slice front ≡ sliced asked.slice h.0 = ap (sliced asked.slice) h.2 ∙ enough h.0 in
    constructed asked next max_rows solutions h.0 (put_in_order asked.order h.0 found solutions h.1 same) answer
    (subst (λ (p : List Solution). OneOrOutOfMemory (λ o. ((max_rows < length p) × (o ≡ Err TooManyRows)) ⊎ ((length p ≤ max_rows) × IsBuilt (made asked.template next p) o)) answer) part due)
