-- Rows, variable by variable.
use Rattle.std.proofs.Common.{◌≡◌, ℕ, zero, suc, ◌<◌, ◌+◌, true, ◌&&◌, List, [], ◌∷◌, length, take, drop, slice_set, Option, Some, None, max, subst, refl, sym, ap, ◌∙◌, arith, add-one}
use Rattle.std.specs.Option.{is_some}
use Rattle.qs_terms.specs.declared.term.Term.{Term}
use Rattle.qs_algebra_solutions.specs.Solution.{compatible_terms, compatible, merge, unbound}
use Rattle.qs_algebra_solutions.specs.inner.Solution.{first_bound}
use Rattle.qs_expr.specs.declared.cell.Cell.{Cell}
use Rattle.qs_expr.specs.inner.Cell.{Cells, cell_at, denoted, denoted_if, row_solution, FitsRow}
use Rattle.qs_expr.specs.inner.Row.{no_cells, agree, compatible_cells, first_cell, merged_cells}
use Rattle.qs_expr.specs.inner.Scratch.{IsTable}
use Rattle.qs_expr.proofs.Finding.{same_cells, term_there}

-- ---- no cells

pub no_cells_unbound : (known table : List Term) (n : ℕ) → row_solution known table (no_cells n) ≡ unbound n
no_cells_unbound known table zero = refl
no_cells_unbound known table (suc n) = ap (λ m. None ∷ m) (no_cells_unbound known table n)

-- ---- compatible rows

agree_none : (x : Option Cell) → agree x None ≡ true
agree_none None = refl
agree_none (Some x) = refl

none_left : (a : Cells) → compatible_cells a [] ≡ true
none_left [] = refl
none_left (x ∷ a) = refl

drop_nil : (i : ℕ) → let n : Cells = [] in drop i n ≡ []
drop_nil zero = refl
drop_nil (suc i) = refl

at : (x : Option Cell) (a : Cells) → true ≡ (agree x None && compatible_cells a [])
at x a = rw (agree_none x, none_left a) refl

step : (a b : Cells) (i : ℕ) → i < length a → compatible_cells (drop i a) (drop i b) ≡ (agree (cell_at a i) (cell_at b i) && compatible_cells (drop (suc i) a) (drop (suc i) b))
step [] b i h = absurd (omega arith)
step (x ∷ a) [] zero h = at x a
step (x ∷ a) (y ∷ b) zero h = refl
step (x ∷ a) [] (suc i) h = ap (compatible_cells (drop i a)) (sym (drop_nil i)) ∙ step a [] i (omega arith) ∙ ap (λ l. agree (cell_at a i) None && compatible_cells (drop (suc i) a) l) (drop_nil (suc i))
step (x ∷ a) (y ∷ b) (suc i) h = step a b i (omega arith)

pub compatible_step : (a b : Cells) (i : ℕ) → i < length a → compatible_cells (drop i a) (drop i b) ≡ (agree (cell_at a i) (cell_at b i) && compatible_cells (drop (i + 1) a) (drop (i + 1) b))
compatible_step a b i h = rw add-one (step a b i h)

-- ---- merged rows

merged_nil : (a : Cells) → merged_cells a [] ≡ a
merged_nil [] = refl
merged_nil (x ∷ a) = refl

first_none : (x : Option Cell) → first_cell x None ≡ x
first_none None = refl
first_none (Some x) = refl

front : (a : Cells) (i : ℕ) → i < length a → drop i a ≡ cell_at a i ∷ drop (suc i) a
front [] i h = absurd (omega arith)
front (x ∷ a) zero h = refl
front (x ∷ a) (suc i) h = front a i (omega arith)

pub put : (a b : Cells) (i : ℕ) → i < max (length a) (length b) → merged_cells (drop i a) (drop i b) ≡ first_cell (cell_at a i) (cell_at b i) ∷ merged_cells (drop (suc i) a) (drop (suc i) b)
put [] b i h = ap (λ l. merged_cells l (drop i b)) (drop_nil i) ∙ front b i (omega arith)
put (x ∷ a) [] i h =
    ap (merged_cells (drop i (x ∷ a))) (drop_nil i) ∙ (merged_nil (drop i (x ∷ a))) ∙ front (x ∷ a) i (omega arith)
    ∙ ap (λ c. c ∷ drop (suc i) (x ∷ a)) (sym (first_none (cell_at (x ∷ a) i)))
    ∙ ap (λ l. first_cell (cell_at (x ∷ a) i) None ∷ l) (sym (merged_nil (drop (suc i) (x ∷ a))))
put (x ∷ a) (y ∷ b) zero h = refl
put (x ∷ a) (y ∷ b) (suc i) h = put a b i (omega arith)

-- ---- the solutions of rows

module _ (known table : List Term) where
  pub fits_first : (x : Option Cell) (m : Cells) → FitsRow known table (x ∷ m) → (c : Cell) → x ≡ Some c → is_some (denoted known table c) ≡ true
  fits_first x m h = h.each 0

  pub fits_rest : (x : Option Cell) (m : Cells) → FitsRow known table (x ∷ m) → FitsRow known table m
  fits_rest x m h = record { each = λ v. h.each (suc v) }

  agree_terms : IsTable known table → (x y : Option Cell) → ((c : Cell) → x ≡ Some c → is_some (denoted known table c) ≡ true) → ((c : Cell) → y ≡ Some c → is_some (denoted known table c) ≡ true)
      → agree x y ≡ compatible_terms (denoted_if known table x) (denoted_if known table y)
  agree_terms t None y h k = refl
  agree_terms t (Some a) None h k = let p = term_there (denoted known table a) (h a refl) in rw p.1 refl
  agree_terms t (Some a) (Some b) h k =
      let p = term_there (denoted known table a) (h a refl) in
      let q = term_there (denoted known table b) (k b refl) in
      rw (p.1, q.1) (same_cells known table t a b p.0 q.0 p.1 q.1)

  pub compatible_terms_of : IsTable known table → (a b : Cells) → FitsRow known table a → FitsRow known table b → compatible_cells a b ≡ compatible (row_solution known table a) (row_solution known table b)
  compatible_terms_of t [] b h k = refl
  compatible_terms_of t (x ∷ a) [] h k = refl
  compatible_terms_of t (x ∷ a) (y ∷ b) h k =
      ap (λ c. c && compatible_cells a b) (agree_terms t x y (fits_first x a h) (fits_first y b k))
      ∙ ap (λ c. compatible_terms (denoted_if known table x) (denoted_if known table y) && c) (compatible_terms_of t a b (fits_rest x a h) (fits_rest y b k))

  first_terms : (x y : Option Cell) → ((c : Cell) → x ≡ Some c → is_some (denoted known table c) ≡ true) → denoted_if known table (first_cell x y) ≡ first_bound (denoted_if known table x) (denoted_if known table y)
  first_terms None y h = refl
  first_terms (Some a) y h = let p = term_there (denoted known table a) (h a refl) in rw p.1 refl

  pub merged_terms : (a b : Cells) → FitsRow known table a → row_solution known table (merged_cells a b) ≡ merge (row_solution known table a) (row_solution known table b)
  merged_terms [] b h = refl
  merged_terms (x ∷ a) [] h = refl
  merged_terms (x ∷ a) (y ∷ b) h =
      ap (λ t. t ∷ row_solution known table (merged_cells a b)) (first_terms x y (fits_first x a h))
      ∙ ap (λ m. first_bound (denoted_if known table x) (denoted_if known table y) ∷ m) (merged_terms a b (fits_rest x a h))

  -- ---- rows that fit

  fits_both : (x : Option Cell) (m : Cells) → ((c : Cell) → x ≡ Some c → is_some (denoted known table c) ≡ true) → FitsRow known table m → FitsRow known table (x ∷ m)
  fits_both x m h k = record { each = at }
    where
      at : (v : ℕ) (c : Cell) → cell_at (x ∷ m) v ≡ Some c → is_some (denoted known table c) ≡ true
      at zero = h
      at (suc v) = k.each v

  pub fits_nil : FitsRow known table []
  fits_nil = record { each = λ v c e. absurd (cc) }

  pub no_cells_fit : (n : ℕ) → FitsRow known table (no_cells n)
  no_cells_fit zero = fits_nil
  no_cells_fit (suc n) = fits_both None (no_cells n) (λ c e. absurd (cc)) (no_cells_fit n)

  pub bound_fits : (m : Cells) (v : ℕ) (c : Cell) → FitsRow known table m → is_some (denoted known table c) ≡ true → FitsRow known table (slice_set m v (Some c))
  bound_fits [] v c h k = h
  bound_fits (x ∷ m) zero c h k = fits_both (Some c) m (λ d e. let i : c ≡ d = cc in subst (λ z. is_some (denoted known table z) ≡ true) i k) (fits_rest x m h)
  bound_fits (x ∷ m) (suc v) c h k = fits_both x (slice_set m v (Some c)) (fits_first x m h) (bound_fits m v c (fits_rest x m h) k)

  pub bound_terms : (m : Cells) (v : ℕ) (c : Cell) → row_solution known table (slice_set m v (Some c)) ≡ slice_set (row_solution known table m) v (denoted known table c)
  bound_terms [] v c = refl
  bound_terms (x ∷ m) zero c = refl
  bound_terms (x ∷ m) (suc v) c = ap (λ n. denoted_if known table x ∷ n) (bound_terms m v c)

  pub merged_fits : (a b : Cells) → FitsRow known table a → FitsRow known table b → FitsRow known table (merged_cells a b)
  merged_fits [] b h k = k
  merged_fits (x ∷ a) [] h k = h
  merged_fits (x ∷ a) (y ∷ b) h k =
      fits_both (first_cell x y) (merged_cells a b) (first x y (fits_first x a h) (fits_first y b k)) (merged_fits a b (fits_rest x a h) (fits_rest y b k))
    where
      first : (x y : Option Cell) → ((c : Cell) → x ≡ Some c → is_some (denoted known table c) ≡ true) → ((c : Cell) → y ≡ Some c → is_some (denoted known table c) ≡ true) → (c : Cell) → first_cell x y ≡ Some c → is_some (denoted known table c) ≡ true
      first None y h k = k
      first (Some d) y h k = h

  pub set_fits : (m : Cells) (v : ℕ) (x : Option Cell) → FitsRow known table m → ((c : Cell) → x ≡ Some c → is_some (denoted known table c) ≡ true) → FitsRow known table (slice_set m v x)
  set_fits [] v x h k = h
  set_fits (y ∷ m) zero x h k = fits_both x m k (fits_rest y m h)
  set_fits (y ∷ m) (suc v) x h k = fits_both y (slice_set m v x) (fits_first y m h) (set_fits m v x (fits_rest y m h) k)

  pub set_terms : (m : Cells) (v : ℕ) (x : Option Cell) → row_solution known table (slice_set m v x) ≡ slice_set (row_solution known table m) v (denoted_if known table x)
  set_terms [] v x = refl
  set_terms (y ∷ m) zero x = refl
  set_terms (y ∷ m) (suc v) x = ap (λ n. denoted_if known table y ∷ n) (set_terms m v x)

  -- ---- the front of a row

  pub front_terms : (n : ℕ) (m : Cells) → row_solution known table (take n m) ≡ take n (row_solution known table m)
  front_terms zero m = refl
  front_terms (suc n) [] = refl
  front_terms (suc n) (x ∷ m) = ap (λ s. denoted_if known table x ∷ s) (front_terms n m)

  pub front_fits : (n : ℕ) (m : Cells) → FitsRow known table m → FitsRow known table (take n m)
  front_fits zero m h = fits_nil
  front_fits (suc n) [] h = h
  front_fits (suc n) (x ∷ m) h = fits_both x (take n m) (fits_first x m h) (front_fits n m (fits_rest x m h))
