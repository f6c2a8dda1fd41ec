-- Distinct rows of cells, while solutions are searched.
use Rattle.std.proofs.Common.{◌≡◌, ◌⊎◌, inl, inr, ℕ, zero, suc, ◌≤◌, Bool, true, false, ◌&&◌, ◌||◌, if◌then◌else◌, List, [], ◌∷◌, ◌++◌, length, map, Option, Some, None, refl, sym, ◌∙◌, ap, subst, append-nil, append_assoc, length-append, unwrap_or, arith}
use Rattle.std.specs.List.{AllByRecursion, list_any}
use Rattle.std.proofs.lemmas.List.{length-map, map-append}
use Rattle.std.proofs.lemmas.List.Folds.{list_any-append}
use Rattle.std.proofs.lemmas.List.Sorted.{length_permutation, IsPermutation-refl, IsPermutation-sym, IsPermutation-trans, IsPermutation-append_right}
use Rattle.qs_terms.specs.Bag.{SameBag, once, with_new}
use Rattle.qs_terms.specs.Term.{same_term}
use Rattle.qs_terms.specs.declared.term.Term.{Term}
use Rattle.qs_terms.proofs.FirstOnes.{once_with}
use Rattle.qs_algebra_solutions.specs.Solution.{Solution, projected, same_solution, term_at}
use Rattle.qs_algebra_solutions.specs.inner.Solution.{same_cell}
use Rattle.qs_algebra_solutions.specs.inner.Some.{AreSomeDistinct, is_enough}
use Rattle.qs_algebra_solutions.proofs.Same.{same_solution-Decides}
use Rattle.qs_expr.specs.declared.cell.Cell.{Cell}
use Rattle.qs_expr.specs.inner.Cell.{Cells, cell_at, denoted, denoted_if, row_solution, FitsIf, FitsRow}
use Rattle.qs_expr.specs.inner.Scratch.{IsTable, Grows}
use Rattle.qs_expr.proofs.Finding.{same_cells, term_there}
use Rattle.qs_expr.proofs.Growth.{same_row, still_row}
use Rattle.qs_expr.proofs.RowTerms.{term_at_row}
use Rattle.qs_expr.proofs.Rows.{fits_first, fits_rest}
use Rattle.qs_ops_walk.specs.inner.Stream.{AreToCome, GivesOne, PassesAlike}
use Rattle.qs_query_solutions.specs.inner.Distinct as distinct
use Rattle.qs_query_solutions.specs.inner.Distinct.{AreDistinctOf, CollectsDistinct, IsDistinctWay, same_if}
use Rattle.qs_query_solutions.proofs.Coming.{Left, left_of, none_of}

-- ---- cells tell terms apart

module _ (known table : List Term) (t : IsTable known table) where
  if_tells : (x y : Option Cell) → FitsIf known table x → FitsIf known table y → same_if x y ≡ same_cell (denoted_if known table x) (denoted_if known table y)
  if_tells None None h k = refl
  if_tells None (Some d) h k = let q = term_there (denoted known table d) (k d refl) in rw q.1 refl
  if_tells (Some c) None h k = let p = term_there (denoted known table c) (h c refl) in rw p.1 refl
  if_tells (Some c) (Some d) h k =
      let p = term_there (denoted known table c) (h c refl) in
      let q = term_there (denoted known table d) (k d refl) in
      same_cells known table t c d p.0 q.0 p.1 q.1 ∙ sym (both p.0 q.0 p.1 q.1)
    where
      both : (x y : Term) → denoted known table c ≡ Some x → denoted known table d ≡ Some y → same_cell (denoted known table c) (denoted known table d) ≡ same_term x y
      both x y e f = rw (e, f) refl

  pub cells_tell : (a b : Cells) → FitsRow known table a → FitsRow known table b → distinct.same_cells a b ≡ same_solution (row_solution known table a) (row_solution known table b)
  cells_tell [] [] h k = refl
  cells_tell [] (y ∷ b) h k = refl
  cells_tell (x ∷ a) [] h k = refl
  cells_tell (x ∷ a) (y ∷ b) h k =
      ap (λ (p : Bool). p && distinct.same_cells a b) (if_tells x y (fits_first known table x a h) (fits_first known table y b k))
      ∙ ap (λ (p : Bool). same_cell (denoted_if known table x) (denoted_if known table y) && p) (cells_tell a b (fits_rest known table x a h) (fits_rest known table y b k))

  abbrev solutions : List Cells → List Solution
  solutions rows = map (row_solution known table) rows

  any_tells : (m : Cells) → FitsRow known table m → (rows : List Cells) → AllByRecursion (FitsRow known table) rows → list_any (distinct.same_cells m) rows ≡ list_any (same_solution (row_solution known table m)) (solutions rows)
  any_tells m h [] k = refl
  any_tells m h (n ∷ rows) k =
      ap (λ (p : Bool). p || list_any (distinct.same_cells m) rows) (cells_tell m n h k.0)
      ∙ ap (λ (p : Bool). same_solution (row_solution known table m) (row_solution known table n) || p) (any_tells m h rows k.1)

  -- so the solutions of the rows with one more, unless it is there, are the solutions with one more
  pub put_tells : (m : Cells) → FitsRow known table m → (rows : List Cells) → AllByRecursion (FitsRow known table) rows → solutions (with_new distinct.same_cells rows m) ≡ with_new same_solution (solutions rows) (row_solution known table m)
  put_tells m h rows k = at (list_any (distinct.same_cells m) rows) refl
    where
      at : (b : Bool) → list_any (distinct.same_cells m) rows ≡ b → solutions (with_new distinct.same_cells rows m) ≡ with_new same_solution (solutions rows) (row_solution known table m)
      at true e = let f = sym (any_tells m h rows k) ∙ e in rw (e, f) refl
      at false e = let f = sym (any_tells m h rows k) ∙ e in rw (e, f) (map-append (row_solution known table) rows (m ∷ []))

module _ (known table : List Term) where
  all_append : (rows more : List Cells) → AllByRecursion (FitsRow known table) rows → AllByRecursion (FitsRow known table) more → AllByRecursion (FitsRow known table) (rows ++ more)
  all_append [] more h k = k
  all_append (m ∷ rows) more h k = (h.0, all_append rows more h.1 k)

  pub put_fits : (m : Cells) → FitsRow known table m → (rows : List Cells) → AllByRecursion (FitsRow known table) rows → AllByRecursion (FitsRow known table) (with_new distinct.same_cells rows m)
  put_fits m h rows k = at (list_any (distinct.same_cells m) rows)
    where
      at : (b : Bool) → AllByRecursion (FitsRow known table) (if b then rows else rows ++ m ∷ [])
      at true = k
      at false = all_append rows (m ∷ []) k (h, tt)

  -- ---- the cells at some variables

  abbrev pub at_columns : List ℕ → Cells → Cells
  at_columns columns m = map (cell_at m) columns

  pub columns_denote : (columns : List ℕ) (m : Cells) → row_solution known table (at_columns columns m) ≡ projected columns (row_solution known table m)
  columns_denote [] m = refl
  columns_denote (v ∷ columns) m =
      ap (λ t. t ∷ row_solution known table (at_columns columns m)) (sym (term_at_row known table m v))
      ∙ ap (λ l. term_at (row_solution known table m) v ∷ l) (columns_denote columns m)

  pub columns_fit : (columns : List ℕ) (m : Cells) → FitsRow known table m → FitsRow known table (at_columns columns m)
  columns_fit columns m h = record { each = λ v. at columns v }
    where
      at : (columns : List ℕ) (v : ℕ) → FitsIf known table (cell_at (at_columns columns m) v)
      at [] v c e = let f : None ≡ Some c = e in cc
      at (w ∷ columns) zero c e = h.each w c e
      at (w ∷ columns) (suc v) c e = at columns v c e

  pub more_fit : (columns : List ℕ) (m : Cells) → FitsRow known table m → (rows : List Cells) → AllByRecursion (FitsRow known table) rows → (new : List Cells) → new ≡ with_new distinct.same_cells rows (at_columns columns m) → AllByRecursion (FitsRow known table) new
  more_fit columns m h rows k new e = subst (λ (l : List Cells). AllByRecursion (FitsRow known table) l) (sym e) (put_fits (at_columns columns m) (columns_fit columns m h) rows k)

-- ---- while the table grows

module _ (known old new : List Term) (g : Grows known old new) where
  pub fit_still : (rows : List Cells) → AllByRecursion (FitsRow known old) rows → AllByRecursion (FitsRow known new) rows
  fit_still [] h = tt
  fit_still (m ∷ rows) h = (still_row known old new g m h.0, fit_still rows h.1)

  denote_still : (rows : List Cells) → AllByRecursion (FitsRow known old) rows → map (row_solution known new) rows ≡ map (row_solution known old) rows
  denote_still [] h = refl
  denote_still (m ∷ rows) h =
      ap (λ n. n ∷ map (row_solution known new) rows) (same_row known old new g m h.0) ∙ ap (λ l. row_solution known old m ∷ l) (denote_still rows h.1)

  pub way_still : (columns : List ℕ) (start : Option (List Solution)) (rows : List Cells) (now : Option (List Solution)) → AllByRecursion (FitsRow known old) rows → IsDistinctWay known old columns start rows now → IsDistinctWay known new columns start rows now
  way_still columns start rows now h w all e =
      let k = w all e in
      (k.0, k.1, record { some = k.2.some; bag = k.2.bag; are = denote_still rows h ∙ k.2.are })

-- ---- one row after another

pub at_start : (known table : List Term) (columns : List ℕ) (start : Option (List Solution)) (rows : List Cells) → rows ≡ [] → IsDistinctWay known table columns start rows start
at_start known table columns start rows e all f =
    (all, f, record { some = []; bag = IsPermutation-refl all; are = ap (map (row_solution known table)) e })

pub none_fit : (known table : List Term) (rows : List Cells) → rows ≡ [] → AllByRecursion (FitsRow known table) rows
none_fit known table rows e = subst (λ (l : List Cells). AllByRecursion (FitsRow known table) l) (sym e) tt

module _ (known table : List Term) (t : IsTable known table) (columns : List ℕ) (start : Option (List Solution)) (rows : List Cells) (fit : AllByRecursion (FitsRow known table) rows) (now : Option (List Solution)) (w : IsDistinctWay known table columns start rows now) where
  abbrev p : Solution → Solution
  p = projected columns

  one_put : (some : List Solution) (m : Cells) → FitsRow known table m → map (row_solution known table) rows ≡ once same_solution (map p some)
      → map (row_solution known table) (with_new distinct.same_cells rows (at_columns known table columns m)) ≡ once same_solution (map p (some ++ row_solution known table m ∷ []))
  one_put some m h are =
      put_tells known table t (at_columns known table columns m) (columns_fit known table columns m h) rows fit
      ∙ (ap (with_new same_solution (map (row_solution known table) rows)) (columns_denote known table columns m)
      ∙ (ap (λ l. with_new same_solution l (p (row_solution known table m))) are
      ∙ (sym (once_with same_solution same_solution-Decides (map p some) (p (row_solution known table m))) ∙ ap (once same_solution) (sym (map-append p some (row_solution known table m ∷ []))))))

  pub one_more : (m : Cells) → FitsRow known table m → (next : Option (List Solution)) → GivesOne now (Some (row_solution known table m)) next → (new : List Cells) → new ≡ with_new distinct.same_cells rows (at_columns known table columns m)
      → IsDistinctWay known table columns start new next
  one_more m h next g new e all s =
      let k = w all s in
      let n : Solution = row_solution known table m in
      let l : Left k.0 n next = left_of k.0 n next (subst (λ (o : Option (List Solution)). GivesOne o (Some n) next) k.1 g) in (
        l.rest,
        l.is,
        record {
          some = k.2.some ++ n ∷ [];
          bag = subst (SameBag all) (sym (append_assoc k.2.some (n ∷ []) l.rest)) (IsPermutation-trans all (k.2.some ++ k.0) (k.2.some ++ n ∷ l.rest) k.2.bag (IsPermutation-append_right k.2.some k.0 (n ∷ l.rest) l.bag));
          are = ap (map (row_solution known table)) e ∙ one_put k.2.some m h k.2.are;
        },
      )

  pub none_more : (most : Option ℕ) (next : Option (List Solution)) → GivesOne now None next → (all : List Solution) → start ≡ Some all → CollectsDistinct known table columns most all rows
  none_more most next g all s =
      let k = w all s in
      (k.0, k.2, inl (none_of k.0 next (subst (λ (o : Option (List Solution)). GivesOne o None next) k.1 g)))

-- ---- rows that are passed over

known_again : (xs : List Solution) (x q : Solution) → list_any (same_solution q) xs ≡ true → x ≡ q → with_new same_solution xs x ≡ xs
known_again xs x q has e = ap (with_new same_solution xs) e ∙ ap (λ (b : Bool). if b then xs else xs ++ q ∷ []) has

has_new : (xs : List Solution) (q : Solution) → list_any (same_solution q) (with_new same_solution xs q) ≡ true
has_new xs q = at (list_any (same_solution q) xs) refl
  where
    last : (b : Bool) → same_solution q q ≡ true → (b || (same_solution q q || false)) ≡ true
    last true h = refl
    last false h = ap (λ (b : Bool). b || false) h

    at : (b : Bool) → list_any (same_solution q) xs ≡ b → list_any (same_solution q) (if b then xs else xs ++ q ∷ []) ≡ true
    at true e = e
    at false e = list_any-append (same_solution q) xs (q ∷ []) ∙ last (list_any (same_solution q) xs) ((same_solution-Decides q q).1 refl)

module _ (columns : List ℕ) (q : Solution) where
  stays_once : (ms ds : List Solution) → list_any (same_solution q) (once same_solution (map (projected columns) ms)) ≡ true → AllByRecursion (λ (d : Solution). projected columns d ≡ q) ds
      → once same_solution (map (projected columns) (ms ++ ds)) ≡ once same_solution (map (projected columns) ms)
  stays_once ms [] has h = ap (λ l. once same_solution (map (projected columns) l)) (append-nil ms)
  stays_once ms (d ∷ ds) has h =
      let p : Solution → Solution = projected columns in
      let one : once same_solution (map p (ms ++ d ∷ [])) ≡ once same_solution (map p ms) =
      ap (once same_solution) (map-append p ms (d ∷ [])) ∙ (once_with same_solution same_solution-Decides (map p ms) (p d) ∙ known_again (once same_solution (map p ms)) (p d) q has h.0) in
      ap (λ l. once same_solution (map p l)) (sym (append_assoc ms (d ∷ []) ds)) ∙ (stays_once (ms ++ d ∷ []) ds (ap (list_any (same_solution q)) one ∙ has) h.1 ∙ one)

-- what is left after those that are passed over
record LeftAlike (columns : List ℕ) (m : Solution) (xs : List Solution) (next : Option (List Solution)) : Type 0 where
  pub passed : List Solution
  pub rest : List Solution
  pub is : next ≡ Some rest
  pub bag : SameBag xs (passed ++ rest)
  pub alike : AllByRecursion (λ (d : Solution). projected columns d ≡ projected columns m) passed

left_alike : (columns : List ℕ) (m : Solution) (xs : List Solution) (next : Option (List Solution)) → PassesAlike columns m (Some xs) next → LeftAlike columns m xs next
left_alike columns m xs None h = absurd h
left_alike columns m xs (Some ys) h = record { passed = h.0; rest = ys; is = refl; bag = h.1; alike = h.2 }

module _ (known table : List Term) (t : IsTable known table) (columns : List ℕ) (rows : List Cells) (fit : AllByRecursion (FitsRow known table) rows) (m : Cells) (h : FitsRow known table m) (new : List Cells) (e : new ≡ with_new distinct.same_cells rows (at_columns known table columns m)) where
  abbrev n : Solution
  n = row_solution known table m

  -- the row was put
  there : list_any (same_solution (projected columns n)) (map (row_solution known table) new) ≡ true
  there =
      ap (λ (l : List Cells). list_any (same_solution (projected columns n)) (map (row_solution known table) l)) e
      ∙ (ap (list_any (same_solution (projected columns n))) (put_tells known table t (at_columns known table columns m) (columns_fit known table columns m h) rows fit)
      ∙ (ap (λ (x : Solution). list_any (same_solution (projected columns n)) (with_new same_solution (map (row_solution known table) rows) x)) (columns_denote known table columns m)
      ∙ has_new (map (row_solution known table) rows) (projected columns n)))

  pub alike_passed : (start now next : Option (List Solution)) → IsDistinctWay known table columns start new now → PassesAlike columns n now next → IsDistinctWay known table columns start new next
  alike_passed start now next w g all s =
      let k = w all s in
      let l : LeftAlike columns n k.0 next = left_alike columns n k.0 next (subst (λ (o : Option (List Solution)). PassesAlike columns n o next) k.1 g) in
      let p : Solution → Solution = projected columns in
      let has : list_any (same_solution (p n)) (once same_solution (map p k.2.some)) ≡ true = ap (list_any (same_solution (p n))) (sym k.2.are) ∙ there in (
        l.rest,
        l.is,
        record {
          some = k.2.some ++ l.passed;
          bag = subst (SameBag all) (sym (append_assoc k.2.some l.passed l.rest)) (IsPermutation-trans all (k.2.some ++ k.0) (k.2.some ++ (l.passed ++ l.rest)) k.2.bag (IsPermutation-append_right k.2.some k.0 (l.passed ++ l.rest) l.bag));
          are = k.2.are ∙ sym (stays_once columns (p n) k.2.some l.passed has l.alike);
        },
      )

-- there are no more of them than were to come
pub no_more : (columns : List ℕ) (m : Solution) (o q : Option (List Solution)) → PassesAlike columns m o q → length (unwrap_or q []) ≤ length (unwrap_or o [])
no_more columns m None None h = omega arith
no_more columns m None (Some ys) h = absurd h
no_more columns m (Some xs) None h = absurd h
no_more columns m (Some xs) (Some ys) h =
    let e : length (h.0 ++ ys) ≡ length xs = length_permutation xs (h.0 ++ ys) h.1 in
    let w = length-append h.0 ys in
    omega (arith, e, w)

-- ---- the answer

pub are_distinct : (known table : List Term) (columns : List ℕ) (most : Option ℕ) (all : List Solution) (rows : List Cells) (answer : List Solution) → answer ≡ map (row_solution known table) rows → CollectsDistinct known table columns most all rows → AreSomeDistinct columns most answer all
are_distinct known table columns most all rows answer e h = (h.1.some, h.0, h.1.bag, e ∙ h.1.are, rest h.2)
  where
    rest : (h.0 ≡ []) ⊎ (is_enough most (length rows) ≡ true) → (h.0 ≡ []) ⊎ (is_enough most (length answer) ≡ true)
    rest (inl q) = inl q
    rest (inr q) = inr (ap (is_enough most) (ap length e ∙ length-map rows (row_solution known table)) ∙ q)

pub distinct_same : (columns : List ℕ) (most : Option ℕ) (answer a b : List Solution) → SameBag b a → AreSomeDistinct columns most answer a → AreSomeDistinct columns most answer b
distinct_same columns most answer a b h k = (k.0, k.1, IsPermutation-trans b a (k.0 ++ k.1) h k.2, k.3, k.4)

-- the solutions that were to come at the start are those of a plan
pub distinct_planned : (columns : List ℕ) (most : Option ℕ) (answer xs : List Solution) (start : Option (List Solution)) → AreToCome xs start → ((all : List Solution) → start ≡ Some all → AreSomeDistinct columns most answer all) → AreSomeDistinct columns most answer xs
distinct_planned columns most answer xs None h f = absurd h
distinct_planned columns most answer xs (Some ys) h f = distinct_same columns most answer ys xs (IsPermutation-sym ys xs h) (f ys refl)
