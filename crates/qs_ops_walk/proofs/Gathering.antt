-- Rows that are gathered of a walk, over named variables.
use Rattle.std.proofs.Common.{◌≡◌, ℕ, zero, suc, ◌<◌, List, [], ◌∷◌, ◌++◌, length, map, take, Some, None, refl, sym, ◌∙◌, ap, subst, append-nil, arith}
use Rattle.std.proofs.lemmas.List.Sorted.{IsPermutation-map, IsPermutation-append_right, IsPermutation-sym, length_permutation}
use Rattle.qs_terms.specs.Bag.{SameBag}
use Rattle.qs_terms.specs.declared.term.Term.{Term}
use Rattle.qs_algebra_solutions.specs.Solution.{Solution}
use Rattle.qs_expr.specs.inner.Cell.{Cells, cell_at, denoted_if, row_solution, FitsRow}
use Rattle.qs_expr.specs.inner.Scratch.{Grows}
use Rattle.qs_expr.specs.declared.cell.Cell.{Cell}
use Rattle.qs_ops_program.specs.inner.Flow.{Instruction}
use Rattle.qs_ops_tables.specs.inner.Tables.{FitRows, row_solutions}
use Rattle.qs_ops_walk.specs.declared.source.Level.{Level}
use Rattle.qs_ops_walk.specs.inner.Setting.{Setting, known_of}
use Rattle.qs_ops_walk.specs.inner.Moves.{GivesRow}
use Rattle.qs_ops_walk.specs.inner.Cursor.{named_coming, GivesNamed}
use Rattle.qs_ops_walk.specs.inner.Gathered.{Gathers}
use Rattle.qs_ops_walk.proofs.Bags.{same, chain}
use Rattle.qs_ops_walk.proofs.Still.{rows_same, rows_still}
use Rattle.qs_ops_walk.proofs.Walks.{all_push}

-- ---- rows without their hidden cells

pub take_row : (known table : List Term) (w : ℕ) (m : Cells) → row_solution known table (take w m) ≡ take w (row_solution known table m)
take_row known table zero [] = refl
take_row known table zero (c ∷ m) = refl
take_row known table (suc w) [] = refl
take_row known table (suc w) (c ∷ m) = ap (λ (x : Solution). denoted_if known table c ∷ x) (take_row known table w m)

taken : (w : ℕ) (m : Cells) (v : ℕ) (c : Cell) → cell_at (take w m) v ≡ Some c → cell_at m v ≡ Some c
taken zero [] v c e = e
taken zero (x ∷ m) v c e = absurd (cc)
taken (suc w) [] v c e = e
taken (suc w) (x ∷ m) zero c e = e
taken (suc w) (x ∷ m) (suc v) c e = taken w m v c e

pub take_fits : (known table : List Term) (w : ℕ) (m : Cells) → FitsRow known table m → FitsRow known table (take w m)
take_fits known table w m h = record { each = λ v c e. h.each v c (taken w m v c e) }

-- ---- one row of a walk
module _ (s : Setting) (code : List Instruction) (t0 t1 : List Term) (old new : List Level) where
  pub named_none : GivesRow s code t0 old None t1 new → GivesNamed s code t0 old None t1 new
  named_none h = (ap (map (take s.width)) h.0, h.1)

  pub named_some : (m r : Cells) → r ≡ take s.width m → GivesRow s code t0 old (Some m) t1 new → GivesNamed s code t0 old (Some r) t1 new
  named_some m r e h =
      let a : row_solution (known_of s) t1 r ≡ take s.width (row_solution (known_of s) t1 m) = ap (row_solution (known_of s) t1) e ∙ take_row (known_of s) t1 s.width m in (
        chain _ _ _ (IsPermutation-map (take s.width) _ _ h.0) (same _ _ (ap (λ (x : Solution). x ∷ named_coming s code t1 new) (sym a))),
        subst (λ (n : Cells). FitsRow (known_of s) t1 n) (sym e) (take_fits (known_of s) t1 s.width m h.1),
      )

-- ---- all of them
solutions_push : (known table : List Term) (rows : List Cells) (r : Cells) (xs : List Solution) → row_solutions known table (rows ++ r ∷ []) ++ xs ≡ row_solutions known table rows ++ (row_solution known table r ∷ xs)
solutions_push known table [] r xs = refl
solutions_push known table (m ∷ rows) r xs = ap (λ (ys : List Solution). row_solution known table m ∷ ys) (solutions_push known table rows r xs)

module _ (s : Setting) (code : List Instruction) (all : List Solution) (t0 : List Term) (rows : List Cells) (old : List Level) (h : Gathers s code all t0 rows old) (t1 : List Term) (g : Grows (known_of s) t0 t1) (new : List Level) where
  pub gathers_more : (r : Cells) → GivesNamed s code t0 old (Some r) t1 new → Gathers s code all t1 (rows ++ r ∷ []) new
  gathers_more r p = record {
    bag =
        chain _ _ _ h.bag (
        chain _ _ _ (IsPermutation-append_right (row_solutions (known_of s) t0 rows) _ _ p.0)
        (same _ _ (ap (λ (xs : List Solution). xs ++ (row_solution (known_of s) t1 r ∷ named_coming s code t1 new)) (sym (rows_same s t0 t1 g rows h.fit)) ∙ sym (solutions_push (known_of s) t1 rows r (named_coming s code t1 new)))));
    fit = all_push (FitsRow (known_of s) t1) rows r (rows_still s t0 t1 g rows h.fit) p.1;
  }

  pub gathers_fewer : (r : Cells) → GivesNamed s code t0 old (Some r) t1 new → length (named_coming s code t1 new) < length (named_coming s code t0 old)
  gathers_fewer r p = omega (arith, length_permutation _ _ p.0)

  pub gathers_all : GivesNamed s code t0 old None t1 new → SameBag (row_solutions (known_of s) t1 rows) all
  gathers_all p =
      let a : row_solutions (known_of s) t0 rows ++ named_coming s code t0 old ≡ row_solutions (known_of s) t1 rows =
      ap (λ (xs : List Solution). row_solutions (known_of s) t0 rows ++ xs) p.0 ∙ (append-nil (row_solutions (known_of s) t0 rows) ∙ sym (rows_same s t0 t1 g rows h.fit)) in
      IsPermutation-sym _ _ (chain _ _ _ h.bag (same _ _ a))

  pub gathers_fit : FitRows (known_of s) t1 rows
  gathers_fit = rows_still s t0 t1 g rows h.fit
