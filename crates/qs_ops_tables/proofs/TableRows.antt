-- The rows of a table, of which each may put terms into the scratch table.
use Rattle.std.proofs.Common.{◌≡◌, ℕ, zero, suc, ◌+◌, ◌<◌, true, List, [], ◌∷◌, ◌++◌, length, get_or, min, map, take, drop, slice_set, Option, Some, None, refl, sym, ap, ◌∙◌, subst, arith}
use Rattle.std.specs.Option.{is_some}
use Rattle.std.proofs.lemmas.List.{take_more, map-append}
use Rattle.qs_terms.specs.declared.term.Term.{Term}
use Rattle.qs_algebra_solutions.specs.Solution.{Solution, bind_all}
use Rattle.qs_algebra_solutions.proofs.Bindings.{one_more}
use Rattle.qs_expr.specs.declared.cell.Cell.{Cell}
use Rattle.qs_expr.specs.inner.Cell.{Cells, denoted, denoted_if, row_solution, FitsIf, FitsRow}
use Rattle.qs_expr.specs.inner.Scratch.{IsTable, Grows}
use Rattle.qs_expr.proofs.Finding.{some_of}
use Rattle.qs_expr.proofs.Growth.{stays, same_row, still_row}
use Rattle.qs_ops_tables.specs.inner.Tables.{FitRows, row_solutions}

pub no_term : (known table : List Term) → FitsIf known table None
no_term known table c e = absurd (cc)

pub one_term : (known table : List Term) (c : Cell) (t : Term) → denoted known table c ≡ Some t → FitsIf known table (Some c)
one_term known table c t e d f =
    let i : c ≡ d = cc in
    subst (λ (z : Cell). is_some (denoted known table z) ≡ true) i (some_of (denoted known table c) t e)

pub same_table : (known table : List Term) → IsTable known table → Grows known table table
same_table known table h = stays known table h

read : (vs : List ℕ) (i : ℕ) → i < length vs → get_or vs i 0 ≡ get_or vs i (get_or vs i 0)
read [] i h = absurd (omega arith)
read (v ∷ vs) zero h = refl
read (v ∷ vs) (suc i) h = read vs i (omega arith)

module _ (known old new : List Term) (g : Grows known old new) where
  -- a variable more of a row
  pub bound_more : (m next : Cells) (vs : List ℕ) (terms : List (Option Term)) (i : ℕ) (x : Option Cell) (t : Option Term) (whole : Solution) → i < min (length vs) (length terms) → t ≡ get_or terms i t
      → FitsRow known old m → denoted_if known new x ≡ t → row_solution known new next ≡ slice_set (row_solution known new m) (get_or vs i 0) (denoted_if known new x)
      → bind_all (row_solution known old m) (drop i vs) (drop i terms) ≡ whole → bind_all (row_solution known new next) (drop (i + 1) vs) (drop (i + 1) terms) ≡ whole
  bound_more m next vs terms i x t whole lt f h d n is =
      let v = get_or vs i 0 in
      ap (λ s. bind_all s (drop (i + 1) vs) (drop (i + 1) terms)) (n ∙ (ap (λ y. slice_set (row_solution known new m) v y) d ∙ ap (λ s. slice_set s v t) (same_row known old new g m h)))
      ∙ (sym (one_more (row_solution known old m) vs terms i v t lt (read vs i (omega arith)) f) ∙ is)

  pub rows_same : (rows : List Cells) → FitRows known old rows → row_solutions known new rows ≡ row_solutions known old rows
  rows_same [] h = refl
  rows_same (r ∷ rows) h = ap (λ s. s ∷ row_solutions known new rows) (same_row known old new g r h.0) ∙ ap (λ s. row_solution known old r ∷ s) (rows_same rows h.1)

  pub rows_fit : (rows : List Cells) → FitRows known old rows → FitRows known new rows
  rows_fit [] h = tt
  rows_fit (r ∷ rows) h = (still_row known old new g r h.0, rows_fit rows h.1)

  -- a row more of a table
  pub rows_more : {X : Type 0} (rows : List Cells) (r : Cells) (f : X → Solution) (xs : List X) (i : ℕ) (x : X) → i < length xs → x ≡ get_or xs i x → FitRows known old rows → row_solutions known old rows ≡ map f (take i xs) → row_solution known new r ≡ f x
      → row_solutions known new (rows ++ r ∷ []) ≡ map f (take (i + 1) xs)
  rows_more rows r f xs i x lt e h is one =
      map-append (row_solution known new) rows (r ∷ [])
      ∙ (ap (λ s. s ++ row_solution known new r ∷ []) (rows_same rows h ∙ is)
      ∙ (ap (λ s. map f (take i xs) ++ s ∷ []) (one ∙ ap f e)
      ∙ (sym (map-append f (take i xs) (get_or xs i x ∷ [])) ∙ ap (map f) (sym (take_more xs i x lt)))))

fit_end : (known table : List Term) (rows : List Cells) (r : Cells) → FitRows known table rows → FitsRow known table r → FitRows known table (rows ++ r ∷ [])
fit_end known table [] r h k = (k, tt)
fit_end known table (s ∷ rows) r h k = (h.0, fit_end known table rows r h.1 k)

pub fit_more : (known old new : List Term) → Grows known old new → (rows : List Cells) (r : Cells) → FitRows known old rows → FitsRow known new r → FitRows known new (rows ++ r ∷ [])
fit_more known old new g rows r h k = fit_end known new rows r (rows_fit known old new g rows h) k
