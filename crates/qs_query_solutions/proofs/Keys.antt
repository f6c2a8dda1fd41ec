-- Rows of cells as the keys of a hashed set.
use Rattle.std.proofs.Common.{◌≡◌, ℕ, zero, suc, ◌+◌, ◌<◌, Bool, true, false, ◌&&◌, ◌||◌, Option, List, [], ◌∷◌, length, map, get_or, refl, sym, subst, ◌∙◌, ap, arith}
use Rattle.std.proofs.Math.ListN.{get_or-map}
use Rattle.std.specs.Prelude.{Vec}
use Rattle.std.specs.Cmp.Lexicographic.{pointwise}
use Rattle.std.specs.List.{AllByRecursion, list_any}
use Rattle.std.proofs.lemmas.List.{map-append}
use Rattle.indexmap.specs.IndexSet.{insert_key}
use Rattle.qs_terms.specs.Bag.{with_new}
use Rattle.qs_terms.specs.declared.term.Term.{Term}
use Rattle.qs_algebra_solutions.specs.Solution.{Solution, term_at}
use Rattle.qs_expr.specs.declared.cell.Cell.{Cell}
use Rattle.qs_expr.specs.inner.Cell.{Cells, cell_at, denoted_if, row_solution}
use Rattle.qs_expr.proofs.RowTerms.{term_at_row}
use Rattle.qs_query_solutions.specs.contracts.distinct_rows.KeyCellPartialEq.TheImpl as equ
use Rattle.qs_query_solutions.specs.declared.distinct_rows.KeyCell.{KeyCell}
use Rattle.qs_query_solutions.specs.declared.distinct_rows.KeyCell.TheVariants.{Unbound, Known, Scratch}
use Rattle.qs_query_solutions.specs.inner.Distinct.{cell_of, cells_of, same_cells, same_if}
use Rattle.qs_query_solutions.specs.inner.Front.{front, with_term}
use Rattle.qs_query_solutions.proofs.Fronts.{front_more}

-- the derived `==` tells cells apart
key_tells : (x y : KeyCell) → equ.ghosts.eq x y ≡ same_if (cell_of x) (cell_of y)
key_tells Unbound Unbound = refl
key_tells Unbound (Known n) = refl
key_tells Unbound (Scratch k) = refl
key_tells (Known m) Unbound = refl
key_tells (Known m) (Known n) = refl
key_tells (Known m) (Scratch k) = refl
key_tells (Scratch j) Unbound = refl
key_tells (Scratch j) (Known n) = refl
key_tells (Scratch j) (Scratch k) = refl

keys_tell : (a b : List KeyCell) → pointwise equ.ghosts.eq a b ≡ same_cells (map cell_of a) (map cell_of b)
keys_tell [] [] = refl
keys_tell [] (y ∷ b) = refl
keys_tell (x ∷ a) [] = refl
keys_tell (x ∷ a) (y ∷ b) = ap (λ (p : Bool). p && pointwise equ.ghosts.eq a b) (key_tells x y) ∙ ap (λ (p : Bool). same_if (cell_of x) (cell_of y) && p) (keys_tell a b)

module _ {Z : Type 0} where
  abbrev pub eq : Vec KeyCell Z → Vec KeyCell Z → Bool
  eq a b = pointwise equ.ghosts.eq a.items b.items

  any_tells : (key : Vec KeyCell Z) (keys : List (Vec KeyCell Z)) → list_any (eq key) keys ≡ list_any (same_cells (cells_of key)) (map cells_of keys)
  any_tells key [] = refl
  any_tells key (k ∷ keys) =
      ap (λ (p : Bool). p || list_any (eq key) keys) (keys_tell key.items k.items)
      ∙ ap (λ (p : Bool). same_cells (cells_of key) (cells_of k) || p) (any_tells key keys)

  -- what the set makes of its keys
  pub put_is : (key : Vec KeyCell Z) (keys : List (Vec KeyCell Z)) → map cells_of (insert_key eq keys key) ≡ with_new same_cells (map cells_of keys) (cells_of key)
  put_is key keys = at (list_any (eq key) keys) refl
    where
      at : (b : Bool) → list_any (eq key) keys ≡ b → map cells_of (insert_key eq keys key) ≡ with_new same_cells (map cells_of keys) (cells_of key)
      at true e = let f = sym (any_tells key keys) ∙ e in rw (e, f) refl
      at false e = let f = sym (any_tells key keys) ∙ e in rw (e, f) (map-append cells_of keys (key ∷ []))

  -- a row of the set
  pub in_keys : (P : Cells → Type 0) (keys : List (Vec KeyCell Z)) (i : ℕ) (key : Vec KeyCell Z) → i < length keys → key ≡ get_or keys i key → AllByRecursion P (map cells_of keys) → P (cells_of key)
  in_keys P [] i key lt e h = absurd (omega arith)
  in_keys P (k ∷ keys) zero key lt e h = subst (λ (x : Vec KeyCell Z). P (cells_of x)) (sym e) h.0
  in_keys P (k ∷ keys) (suc i) key lt e h = in_keys P keys i key (omega arith) e h.1

-- ---- the terms of a key

pub key_cell : (keys : List KeyCell) (i : ℕ) → cell_at (map cell_of keys) i ≡ cell_of (get_or keys i Unbound)
key_cell keys i = get_or-map cell_of keys i Unbound

-- one cell more
pub key_more : (known table : List Term) (keys : List KeyCell) (i : ℕ) (s s2 : Solution) (x : Option Cell) (o : Option Term) → i < length keys → s ≡ front i (length keys) (row_solution known table (map cell_of keys))
    → x ≡ cell_of (get_or keys i Unbound) → o ≡ denoted_if known table x → s2 ≡ with_term s i o → s2 ≡ front (i + 1) (length keys) (row_solution known table (map cell_of keys))
key_more known table keys i s s2 x o h e f g k =
    let m : Solution = row_solution known table (map cell_of keys) in
    let is : o ≡ term_at m i = g ∙ (ap (denoted_if known table) (f ∙ sym (key_cell keys i)) ∙ sym (term_at_row known table (map cell_of keys) i)) in
    k ∙ (ap (λ y. with_term y i o) e ∙ (ap (with_term (front i (length keys) m) i) is ∙ front_more i (length keys) m h))
