-- The solutions of rows that are merged or excluded are those of the algebra.
use Rattle.std.proofs.Common.{◌≡◌, ℕ, zero, suc, Bool, true, false, ◌&&◌, ◌||◌, if◌then◌else◌, List, [], ◌∷◌, map, take, drop, length, subst, Option, Some, None, refl, sym, ap, ◌∙◌}
use Rattle.std.specs.List.{filter, list_any}
use Rattle.std.specs.Option.{is_some}
use Rattle.qs_terms.specs.declared.term.Term.{Term}
use Rattle.qs_algebra_solutions.specs.Solution.{Solution, compatible, merge, share}
use Rattle.qs_algebra_solutions.specs.inner.Solution.{both_bound}
use Rattle.qs_algebra_solutions.specs.Operators.{merges, excludes}
use Rattle.qs_expr.specs.declared.cell.Cell.{Cell}
use Rattle.qs_expr.specs.inner.Cell.{Cells, cell_at, denoted, denoted_if, row_solution, FitsRow}
use Rattle.qs_expr.specs.inner.Row.{compatible_cells, merged_cells}
use Rattle.qs_expr.specs.inner.Scratch.{IsTable}
use Rattle.qs_expr.proofs.Finding.{term_there}
use Rattle.qs_expr.proofs.Rows.{compatible_terms_of, merged_terms, merged_fits, fits_first, fits_rest}
use Rattle.std.proofs.Math.Seq.{take-length}
use Rattle.qs_ops_tables.specs.inner.Keys.{IsHashOf, Passes}
use Rattle.qs_ops_tables.specs.inner.Tables.{partners, merges_cells, both_cells, share_cells, excludes_cells, FitRows, row_solutions, GivesMerges, FitsMerges, TellsExcluded}

taken : (n : ℕ) (m : Cells) (v : ℕ) (c : Cell) → cell_at (take n m) v ≡ Some c → cell_at m v ≡ Some c
taken zero m zero c e = let f : None ≡ Some c = e in cc
taken zero m (suc v) c e = let f : None ≡ Some c = e in cc
taken (suc n) [] v c e = e
taken (suc n) (x ∷ m) zero c e = e
taken (suc n) (x ∷ m) (suc v) c e = taken n m v c e

module _ (known table : List Term) where
  -- ---- merges

  one_merged : (b : Bool) (m r : Cells) (rs : List Cells) → FitsRow known table m
      → row_solutions known table (map (merged_cells m) (if b then r ∷ rs else rs)) ≡ (if b then merge (row_solution known table m) (row_solution known table r) ∷ row_solutions known table (map (merged_cells m) rs) else row_solutions known table (map (merged_cells m) rs))
  one_merged true m r rs h = ap (λ s. s ∷ row_solutions known table (map (merged_cells m) rs)) (merged_terms known table m r h)
  one_merged false m r rs h = refl

  two_merged : (b : Bool) (s t : Solution) (xs : List Solution) → (if b then merge s t ∷ map (merge s) xs else map (merge s) xs) ≡ map (merge s) (if b then t ∷ xs else xs)
  two_merged true s t xs = refl
  two_merged false s t xs = refl

  merges_each : IsTable known table → (rows : List Cells) (m : Cells) → FitRows known table rows → FitsRow known table m
      → row_solutions known table (merges_cells rows m) ≡ merges (row_solutions known table rows) (row_solution known table m)
  merges_each t [] m h k = refl
  merges_each t (r ∷ rows) m h k =
      one_merged (compatible_cells m r) m r (partners rows m) k
      ∙ (ap (λ b. if b then merge (row_solution known table m) (row_solution known table r) ∷ row_solutions known table (merges_cells rows m) else row_solutions known table (merges_cells rows m)) (compatible_terms_of known table t m r k h.0)
      ∙ (ap (λ xs. if compatible (row_solution known table m) (row_solution known table r) then merge (row_solution known table m) (row_solution known table r) ∷ xs else xs) (merges_each t rows m h.1 k)
      ∙ two_merged (compatible (row_solution known table m) (row_solution known table r)) (row_solution known table m) (row_solution known table r) (filter (compatible (row_solution known table m)) (row_solutions known table rows))))

  fits_each : (rows : List Cells) (m : Cells) → FitRows known table rows → FitsRow known table m → FitRows known table (merges_cells rows m)
  fits_each [] m h k = tt
  fits_each (r ∷ rows) m h k = at (compatible_cells m r) (fits_each rows m h.1 k)
    where
      at : (b : Bool) → FitRows known table (map (merged_cells m) (partners rows m)) → FitRows known table (map (merged_cells m) (if b then r ∷ partners rows m else partners rows m))
      at true i = (merged_fits known table m r k h.0, i)
      at false i = i

  -- ---- exclusion

  both_terms : (x y : Option Cell) → ((c : Cell) → x ≡ Some c → is_some (denoted known table c) ≡ true) → ((c : Cell) → y ≡ Some c → is_some (denoted known table c) ≡ true)
      → both_cells x y ≡ both_bound (denoted_if known table x) (denoted_if known table y)
  both_terms None y h k = refl
  both_terms (Some a) None h k = let p = term_there (denoted known table a) (h a refl) in rw p.1 refl
  both_terms (Some a) (Some b) h k =
      let p = term_there (denoted known table a) (h a refl) in
      let q = term_there (denoted known table b) (k b refl) in
      rw (p.1, q.1) refl

  share_terms : (a b : Cells) → FitsRow known table a → FitsRow known table b → share_cells a b ≡ share (row_solution known table a) (row_solution known table b)
  share_terms [] b h k = refl
  share_terms (x ∷ a) [] h k = refl
  share_terms (x ∷ a) (y ∷ b) h k =
      ap (λ c. c || share_cells a b) (both_terms x y (fits_first known table x a h) (fits_first known table y b k))
      ∙ ap (λ c. both_bound (denoted_if known table x) (denoted_if known table y) || c) (share_terms a b (fits_rest known table x a h) (fits_rest known table y b k))

  take_terms : (n : ℕ) (m : Cells) → row_solution known table (take n m) ≡ take n (row_solution known table m)
  take_terms zero m = refl
  take_terms (suc n) [] = refl
  take_terms (suc n) (x ∷ m) = ap (λ s. denoted_if known table x ∷ s) (take_terms n m)

  take_fits : (n : ℕ) (m : Cells) → FitsRow known table m → FitsRow known table (take n m)
  take_fits n m h = record { each = λ v c e. h.each v c (taken n m v c e) }

  excludes_each : IsTable known table → (rows : List Cells) (m : Cells) → FitRows known table rows → FitsRow known table m → list_any (excludes_cells m) rows ≡ list_any (excludes (row_solution known table m)) (row_solutions known table rows)
  excludes_each t [] m h k = refl
  excludes_each t (r ∷ rows) m h k =
      ap (λ b. (b && share_cells m r) || list_any (excludes_cells m) rows) (compatible_terms_of known table t m r k h.0)
      ∙ (ap (λ b. (compatible (row_solution known table m) (row_solution known table r) && b) || list_any (excludes_cells m) rows) (share_terms m r k h.0)
      ∙ ap (λ b. excludes (row_solution known table m) (row_solution known table r) || b) (excludes_each t rows m h.1 k))

pub merges_terms : (rows : List Cells) (m : Cells) (merged : List Cells) → merged ≡ merges_cells rows m → GivesMerges rows m merged
merges_terms rows m merged e known table t h k = ap (row_solutions known table) e ∙ merges_each known table t rows m h k

pub merges_fit : (rows : List Cells) (m : Cells) (merged : List Cells) → merged ≡ merges_cells rows m → FitsMerges rows m merged
merges_fit rows m merged e known table h k = rw e (fits_each known table rows m h k)

pub excluded_terms : (rows : List Cells) (width : ℕ) (m : Cells) (result : Bool) → result ≡ list_any (excludes_cells (take width m)) rows → TellsExcluded rows width m result
excluded_terms rows width m result e known table t h k =
    e ∙ (excludes_each known table t rows (take width m) h (take_fits known table width m k) ∙ ap (λ s. list_any (excludes s) (row_solutions known table rows)) (take_terms known table width m))

-- a probe begins with all merges
pub begun : (key : List ℕ) (rows : List Cells) (hash : Option ℕ) (m : Cells) (at : ℕ) → IsHashOf key hash (take (length m) m) → Passes key hash rows 0 at → merges_cells (drop at rows) m ≡ merges_cells rows m
begun key rows hash m at h p = ap (map (merged_cells m)) (sym (p.same m (subst (IsHashOf key hash) (take-length m) h)))
