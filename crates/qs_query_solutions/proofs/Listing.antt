-- Rows of cells that are listed while solutions come.
use Rattle.std.proofs.Common.{◌≡◌, ◌+◌, ◌<◌, ◌≤◌, ℕ, Option, Some, None, List, [], ◌∷◌, ◌++◌, length, map, get_or, Ok, Err, refl, sym, ◌∙◌, ap, subst, arith, append_assoc, append-nil, length-append}
use Rattle.std.specs.List.{All}
use Rattle.std.proofs.lemmas.List.{map-append, length-map}
use Rattle.std.proofs.lemmas.List.Elements.{All-nil, All-cons, All-head, All-tail, All-append}
use Rattle.std.proofs.lemmas.List.Sorted.{IsPermutation-refl, IsPermutation-sym, IsPermutation-trans, IsPermutation-append_right, length_permutation}
use Rattle.qs_terms.specs.Bag.{SameBag}
use Rattle.qs_terms.specs.Outcome.{Outcome}
use Rattle.qs_terms.specs.declared.term.Term.{Term}
use Rattle.qs_algebra_solutions.specs.Solution.{Solution}
use Rattle.qs_expr.specs.inner.Cell.{Cells, row_solution, FitsRow}
use Rattle.qs_expr.specs.inner.Scratch.{Grows}
use Rattle.qs_expr.proofs.Growth.{same_row, still_row}
use Rattle.qs_ops_walk.specs.inner.Stream.{AreToCome, GivesOne}
use Rattle.qs_query_solutions.specs.declared.cell_rows.CellRows.{CellRows}
use Rattle.qs_query_solutions.specs.inner.CellRows.{AreAll, AreAllCells}
use Rattle.qs_query_solutions.proofs.Coming.{Left, left_of, none_of}

abbrev pub Fitting : List Term → List Term → List Cells → Type 0
Fitting known table rows = All (FitsRow known table) rows

-- of all solutions that were to come at the start the rows denote some, and the others are still to come
abbrev pub IsOnTheWay : Option (List Solution) → List Term → List Term → Option (List Solution) → List Cells → Type 0
IsOnTheWay start known table left rows = (all : List Solution) → start ≡ Some all → (rest : List Solution) × (left ≡ Some rest) × SameBag all (map (row_solution known table) rows ++ rest)

pub at_start : (start : Option (List Solution)) (known table : List Term) (rows : List Cells) → rows ≡ [] → IsOnTheWay start known table start rows
at_start start known table rows e all s = (all, s, subst (λ r. SameBag all (map (row_solution known table) r ++ all)) (sym e) (IsPermutation-refl all))

pub none_fit : (known table : List Term) (rows : List Cells) → rows ≡ [] → Fitting known table rows
none_fit known table rows e = subst (Fitting known table) (sym e) (All-nil (FitsRow known table))

pub one_fits : (known table : List Term) (rows new : List Cells) (row : Cells) → Fitting known table rows → FitsRow known table row → new ≡ rows ++ row ∷ [] → Fitting known table new
one_fits known table rows new row h fit e =
    subst (Fitting known table) (sym e) (All-append (FitsRow known table) rows (row ∷ []) h (All-cons (FitsRow known table) row [] fit (All-nil (FitsRow known table))))

module _ (known old table : List Term) (g : Grows known old table) where
  same_solutions : (rows : List Cells) → Fitting known old rows → map (row_solution known old) rows ≡ map (row_solution known table) rows
  same_solutions [] h = refl
  same_solutions (r ∷ rs) h =
      ap (λ m. m ∷ map (row_solution known old) rs) (sym (same_row known old table g r (All-head (FitsRow known old) r rs h)))
      ∙ ap (λ l. row_solution known table r ∷ l) (same_solutions rs (All-tail (FitsRow known old) r rs h))

  pub still_fit : (rows : List Cells) → Fitting known old rows → Fitting known table rows
  still_fit rows h = λ i d lt. still_row known old table g (get_or rows i d) (h i d lt)

  module _ (start left : Option (List Solution)) (rows : List Cells) (fits : Fitting known old rows) (h : IsOnTheWay start known old left rows) where
    pub one_more : (row : Cells) (q : Option (List Solution)) (new : List Cells) → GivesOne left (Some (row_solution known table row)) q → new ≡ rows ++ row ∷ [] → IsOnTheWay start known table q new
    one_more row q new gives e all s =
        let f = row_solution known table in
        let k = h all s in
        let l : Left k.0 (f row) q = left_of k.0 (f row) q (subst (λ (o : Option (List Solution)). GivesOne o (Some (f row)) q) k.1 gives) in
        let before : SameBag all (map f rows ++ k.0) = subst (λ ms. SameBag all (ms ++ k.0)) (same_solutions rows fits) k.2 in
        let now : SameBag all (map f rows ++ f row ∷ l.rest) = IsPermutation-trans all (map f rows ++ k.0) (map f rows ++ f row ∷ l.rest) before (IsPermutation-append_right (map f rows) k.0 (f row ∷ l.rest) l.bag) in
        let last : (map f rows ++ f row ∷ []) ++ l.rest ≡ map f rows ++ f row ∷ l.rest = append_assoc (map f rows) (f row ∷ []) l.rest in (
          l.rest,
          l.is,
          subst (λ r. SameBag all (map f r ++ l.rest)) (sym e) (subst (λ ms. SameBag all (ms ++ l.rest)) (sym (map-append f rows (row ∷ []))) (subst (SameBag all) (sym last) now)),
        )

    pub none_more : (q : Option (List Solution)) (max_rows : ℕ) → GivesOne left None q → length rows ≤ max_rows → (all : List Solution) → start ≡ Some all → AreAll max_rows known table all rows
    none_more q max_rows gives few all s =
        let f = row_solution known table in
        let k = h all s in
        let none : k.0 ≡ [] = none_of k.0 q (subst (λ (o : Option (List Solution)). GivesOne o None q) k.1 gives) in
        let before : SameBag all (map f rows ++ k.0) = subst (λ ms. SameBag all (ms ++ k.0)) (same_solutions rows fits) k.2 in
        let whole : SameBag all (map f rows) = subst (SameBag all) (append-nil (map f rows)) (subst (λ r. SameBag all (map f rows ++ r)) none before) in
        record { same = IsPermutation-sym all (map f rows) whole; few = few }

    pub too_many : (m : Solution) (q : Option (List Solution)) (max_rows : ℕ) → GivesOne left (Some m) q → length rows ≡ max_rows → (all : List Solution) → start ≡ Some all → max_rows < length all
    too_many m q max_rows gives e all s =
        let f = row_solution known old in
        let k = h all s in
        let l : Left k.0 m q = left_of k.0 m q (subst (λ (o : Option (List Solution)). GivesOne o (Some m) q) k.1 gives) in
        let whole : length (map f rows ++ k.0) ≡ length all = length_permutation all (map f rows ++ k.0) k.2 in
        let rest : length (m ∷ l.rest) ≡ length k.0 = length_permutation k.0 (m ∷ l.rest) l.bag in
        let sum : length (map f rows ++ k.0) ≡ length (map f rows) + length k.0 = length-append (map f rows) k.0 in
        let own : length (map f rows) ≡ length rows = length-map rows f in
        omega (arith, whole, rest, sum, own, e)

-- the solutions that were to come at the start are those of a plan
pub all_planned : (max_rows : ℕ) (known table : List Term) (rows : List Cells) (xs : List Solution) (start : Option (List Solution)) → AreToCome xs start → ((all : List Solution) → start ≡ Some all → AreAll max_rows known table all rows) → AreAll max_rows known table xs rows
all_planned max_rows known table rows xs None h f = absurd h
all_planned max_rows known table rows xs (Some ys) h f = let a = f ys refl in record { same = IsPermutation-trans (map (row_solution known table) rows) ys xs a.same h; few = a.few }

pub too_many_planned : (max_rows : ℕ) (xs : List Solution) (start : Option (List Solution)) → AreToCome xs start → ((all : List Solution) → start ≡ Some all → max_rows < length all) → max_rows < length xs
too_many_planned max_rows xs None h f = absurd h
too_many_planned max_rows xs (Some ys) h f = let e : length xs ≡ length ys = length_permutation ys xs h in omega (arith, e, f ys refl)

-- the same solutions in another order
pub cells_of_same : (max_rows : ℕ) (known : List Term) (xs ys : List Solution) (result : Outcome CellRows) → SameBag xs ys → AreAllCells max_rows known xs result → AreAllCells max_rows known ys result
cells_of_same max_rows known xs ys (Ok found) e h =
    (h.0, record { same = IsPermutation-trans (map (row_solution known found.scratch) found.rows.items) xs ys h.1.same e; few = h.1.few })
cells_of_same max_rows known xs ys (Err f) e h = λ n. let k = h n in let count : length ys ≡ length xs = length_permutation xs ys e in (k.0, omega (arith, k.1, count))
