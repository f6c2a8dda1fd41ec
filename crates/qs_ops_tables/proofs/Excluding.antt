-- The test of MINUS, variable by variable and row by row.
use Rattle.std.proofs.Common.{◌≡◌, ℕ, zero, suc, ◌+◌, ◌<◌, ◌≤◌, Bool, true, false, ◌&&◌, ◌||◌, if◌then◌else◌, List, [], ◌∷◌, length, drop, take, min, Option, Some, None, refl, sym, ap, ◌∙◌, arith, add-one}
use Rattle.std.specs.List.{list_any}
use Rattle.std.proofs.lemmas.List.{drop_all, length-take}
use Rattle.qs_expr.specs.declared.cell.Cell.{Cell}
use Rattle.qs_expr.specs.inner.Cell.{Cells, cell_at, same_cell}
use Rattle.qs_expr.specs.inner.Row.{agree, compatible_cells}
use Rattle.qs_ops_tables.specs.inner.Tables.{both_cells, share_cells, excludes_cells, partners}
use Rattle.qs_ops_tables.specs.inner.Excluding.{share_next, excludes_from}
use Rattle.qs_ops_tables.specs.inner.Keys.{key_hash, IsHashOf, Passes, Meets, MeetsNone}
use Rattle.qs_ops_tables.proofs.Hashes.{front_below}

agree_none : (x : Option Cell) → agree x None ≡ true
agree_none None = refl
agree_none (Some x) = refl

both_none : (x : Option Cell) → both_cells x None ≡ false
both_none None = refl
both_none (Some x) = refl

none_left : (a : Cells) → compatible_cells a [] ≡ true
none_left [] = refl
none_left (x ∷ a) = refl

none_shared : (a : Cells) → share_cells a [] ≡ false
none_shared [] = refl
none_shared (x ∷ a) = refl

drop_nil : (i : ℕ) → let n : Cells = [] in drop i n ≡ []
drop_nil zero = refl
drop_nil (suc i) = refl

at_end : (s : Bool) (x : Option Cell) (a : Cells) → excludes_from s (x ∷ a) [] ≡ ((agree x None && compatible_cells a []) && (s || (both_cells x None || share_cells a [])))
at_end s x a = rw (agree_none x, none_left a, both_none x, none_shared a) refl

step : (s : Bool) (a b : Cells) (i : ℕ) → i < length a
    → excludes_from s (drop i a) (drop i b) ≡ ((agree (cell_at a i) (cell_at b i) && compatible_cells (drop (suc i) a) (drop (suc i) b)) && (s || (both_cells (cell_at a i) (cell_at b i) || share_cells (drop (suc i) a) (drop (suc i) b))))
step s [] b i h = absurd (omega arith)
step s (x ∷ a) [] zero h = at_end s x a
step s (x ∷ a) (y ∷ b) zero h = refl
step s (x ∷ a) [] (suc i) h =
    ap (λ l. excludes_from s (drop i a) l) (sym (drop_nil i)) ∙ step s a [] i (omega arith)
    ∙ ap (λ l. (agree (cell_at a i) None && compatible_cells (drop (suc i) a) l) && (s || (both_cells (cell_at a i) None || share_cells (drop (suc i) a) l))) (drop_nil (suc i))
step s (x ∷ a) (y ∷ b) (suc i) h = step s a b i (omega arith)

or_true : (s : Bool) → (s || true) ≡ true
or_true true = refl
or_true false = refl

or_false : (s : Bool) → (s || false) ≡ s
or_false true = refl
or_false false = refl

-- the row's first n variables, and another row
module _ (n : ℕ) (m b : Cells) where
  below : (i : ℕ) → i < min n (length m) → i < length (take n m)
  below i h = simp length-take h

  pub excludes_begin : excludes_cells (take n m) b ≡ excludes_from false (drop 0 (take n m)) (drop 0 b)
  excludes_begin = refl

  -- one variable more
  more : (s : Bool) (x y : Option Cell) (p q : Cells) → share_next s x y ≡ None → ((agree x y && compatible_cells p q) && (s || (both_cells x y || share_cells p q))) ≡ false
  more s None y p q e = cc
  more s (Some x) None p q e = cc
  more s (Some x) (Some y) p q e = at (same_cell x y) e
    where
      at : (d : Bool) → (if d then Some true else None) ≡ None → ((d && compatible_cells p q) && (s || true)) ≡ false
      at true e = cc
      at false e = refl

  on : (s t : Bool) (x y : Option Cell) (p q : Cells) → share_next s x y ≡ Some t → ((agree x y && compatible_cells p q) && (s || (both_cells x y || share_cells p q))) ≡ excludes_from t p q
  on s t None y p q e = let f : s ≡ t = cc in ap (λ u. excludes_from u p q) f
  on s t (Some x) None p q e = let f : s ≡ t = cc in ap (λ u. excludes_from u p q) f
  on s t (Some x) (Some y) p q e = at (same_cell x y) e
    where
      at : (d : Bool) → (if d then Some true else None) ≡ Some t → ((d && compatible_cells p q) && (s || true)) ≡ excludes_from t p q
      at true e = let f : true ≡ t = cc in ap (λ u. compatible_cells p q && u) (or_true s) ∙ ap (λ u. excludes_from u p q) f
      at false e = let f : None ≡ Some t = e in absurd (cc)

  shown : (s : Bool) (i : ℕ) → i < min n (length m)
      → excludes_from s (drop i (take n m)) (drop i b) ≡ ((agree (cell_at m i) (cell_at b i) && compatible_cells (drop (i + 1) (take n m)) (drop (i + 1) b)) && (s || (both_cells (cell_at m i) (cell_at b i) || share_cells (drop (i + 1) (take n m)) (drop (i + 1) b))))
  shown s i h = rw (sym (front_below m n i (omega arith)), add-one) (step s (take n m) b i (below i h))

  -- the cells of one variable differ
  pub excludes_apart : (s : Bool) (i : ℕ) → i < min n (length m) → share_next s (cell_at m i) (cell_at b i) ≡ None → excludes_from s (drop i (take n m)) (drop i b) ≡ false
  excludes_apart s i h e = shown s i h ∙ more s (cell_at m i) (cell_at b i) (drop (i + 1) (take n m)) (drop (i + 1) b) e

  -- they don't
  pub excludes_next : (s t : Bool) (i : ℕ) → i < min n (length m) → share_next s (cell_at m i) (cell_at b i) ≡ Some t → excludes_from s (drop i (take n m)) (drop i b) ≡ excludes_from t (drop (i + 1) (take n m)) (drop (i + 1) b)
  excludes_next s t i h e = shown s i h ∙ on s t (cell_at m i) (cell_at b i) (drop (i + 1) (take n m)) (drop (i + 1) b) e

  pub excludes_end : (s : Bool) (i : ℕ) → min n (length m) ≤ i → excludes_from s (drop i (take n m)) (drop i b) ≡ s
  excludes_end s i h = ap (λ a. excludes_from s a (drop i b)) (drop_all i (take n m) (simp length-take h)) ∙ or_false s

-- ---- row by row

pub is_hash : (key : List ℕ) (hash : Option ℕ) (m : Cells) → hash ≡ key_hash key m → IsHashOf key hash m
is_hash key None m e = tt
is_hash key (Some h) m e = sym e

excludes_partners : (m : Cells) (rows : List Cells) → list_any (excludes_cells m) rows ≡ list_any (share_cells m) (partners rows m)
excludes_partners m [] = refl
excludes_partners m (r ∷ rows) = at (compatible_cells m r) refl (excludes_partners m rows)
  where
    at : (c : Bool) → compatible_cells m r ≡ c → list_any (excludes_cells m) rows ≡ list_any (share_cells m) (partners rows m) → list_any (excludes_cells m) (r ∷ rows) ≡ list_any (share_cells m) (partners (r ∷ rows) m)
    at true e f = rw e (ap (λ x. share_cells m r || x) f)
    at false e f = rw e f

same_exclusion : (m : Cells) (xs ys : List Cells) → partners xs m ≡ partners ys m → list_any (excludes_cells m) xs ≡ list_any (excludes_cells m) ys
same_exclusion m xs ys e = excludes_partners m xs ∙ (ap (list_any (share_cells m)) e ∙ sym (excludes_partners m ys))

module _ (key : List ℕ) (rows : List Cells) (hash : Option ℕ) (m : Cells) (h : IsHashOf key hash m) where
  pub excluded_first : (to : ℕ) → Passes key hash rows 0 to → list_any (excludes_cells m) rows ≡ list_any (excludes_cells m) (drop to rows)
  excluded_first to p = same_exclusion m rows (drop to rows) (p.same m h)

  pub excluded_none : (at : ℕ) → MeetsNone key hash rows at → list_any (excludes_cells m) (drop at rows) ≡ false
  excluded_none at p = same_exclusion m (drop at rows) [] (p.none m h)

  pub excluded_meets : (at : ℕ) (r : Cells) (to : ℕ) → Meets key hash rows at r to → list_any (excludes_cells m) (drop at rows) ≡ (excludes_cells m r || list_any (excludes_cells m) (drop to rows))
  excluded_meets at r to p = same_exclusion m (drop at rows) (r ∷ drop to rows) (p.same m h)
