-- Compact cells.
use Rattle.std.proofs.Common.{◌≡◌, ℕ, zero, suc, ◌<◌, ◌≤◌, ◌+◌, ◌*◌, ◌/◌, ◌%◌, Bool, true, false, ◌&&◌, List, [], ◌∷◌, ◌++◌, length, take, drop, replicate, get_or, Option, None, min, refl, sym, ap, ◌∙◌, arith, add-one}
use Rattle.std.proofs.lemmas.List.{map-set, take-map, drop-map, length-map, map-append, take_more_set, append_assoc, append-nil, drop-set-lt}
use Rattle.std.proofs.Math.ListN.{set}
use Rattle.qs_expr.specs.declared.compact.CompactCell.{CompactCell}
use Rattle.qs_expr.specs.declared.compact.CompactCell.TheVariants.{Unbound}
use Rattle.qs_expr.specs.declared.cell.Cell.{Cell}
use Rattle.qs_expr.specs.inner.Cell.{Cells, cell_at}
use Rattle.qs_expr.specs.inner.Row.{no_cells, agree, compatible_cells, first_cell, merged_cells}
use Rattle.qs_expr.specs.inner.Compact.{cell_of, cells_of}
use Rattle.qs_expr.proofs.Rows.{compatible_step, put}

pub halves : (k : ℕ) → (k / 4294967296) * 4294967296 + k % 4294967296 ≡ k
halves k = omega arith

pub none_bound : (n : ℕ) → cells_of (replicate n Unbound) ≡ no_cells n
none_bound zero = refl
none_bound (suc n) = ap (λ m. None ∷ m) (none_bound n)

-- the cell of a variable
pub there : (xs : List CompactCell) (v : ℕ) (x : CompactCell) → v < length xs → x ≡ get_or xs v x → cell_of x ≡ cell_at (cells_of xs) v
there [] v x h e = absurd (omega arith)
there (y ∷ xs) zero x h e = ap cell_of e
there (y ∷ xs) (suc v) x h e = there xs v x (omega arith) e

pub past : (xs : List CompactCell) (v : ℕ) → length xs ≤ v → None ≡ cell_at (cells_of xs) v
past [] zero h = refl
past [] (suc v) h = refl
past (y ∷ xs) zero h = absurd (omega arith)
past (y ∷ xs) (suc v) h = past xs v (omega arith)

pub read : (xs : List CompactCell) (v : ℕ) → cell_of (get_or xs v Unbound) ≡ cell_at (cells_of xs) v
read [] zero = refl
read [] (suc v) = refl
read (y ∷ xs) zero = refl
read (y ∷ xs) (suc v) = read xs v

-- ---- parts and changes of rows

take_min : (n : ℕ) (xs : List CompactCell) → take (min n (length xs)) xs ≡ take n xs
take_min zero xs = let e : min 0 (length xs) ≡ 0 = omega arith in ap (λ k. take k xs) e
take_min (suc n) [] = let e : min (suc n) 0 ≡ 0 = omega arith in ap (λ k. take k []) e
take_min (suc n) (x ∷ xs) = let e : min (suc n) (suc (length xs)) ≡ suc (min n (length xs)) = omega arith in ap (λ k. take k (x ∷ xs)) e ∙ ap (λ l. x ∷ l) (take_min n xs)

pub front_is : (xs : List CompactCell) (n w : ℕ) → n ≡ min w (length xs) → cells_of (take n xs) ≡ take w (cells_of xs)
front_is xs n w e = ap (λ k. cells_of (take k xs)) e ∙ (ap cells_of (take_min w xs) ∙ sym (take-map cell_of w xs))

pub cut : (xs ys : List CompactCell) (n : ℕ) (old : Cells) → cells_of xs ≡ old → ys ≡ take n xs → cells_of ys ≡ take n old
cut xs ys n old e f = ap cells_of f ∙ (sym (take-map cell_of n xs) ∙ ap (take n) e)

pub put_one : (xs : List CompactCell) (v : ℕ) (x : CompactCell) (old : Cells) (o : Option Cell) → cells_of xs ≡ old → cell_of x ≡ o → cells_of (set xs v x) ≡ set old v o
put_one xs v x old o e f = map-set cell_of xs v x ∙ (ap (λ (m : Cells). set m v (cell_of x)) e ∙ ap (set old v) f)

-- ---- compatible rows

module _ (xs ys : List CompactCell) (whole : Bool) (i : ℕ) (h : i < min (length xs) (length ys)) (is : whole ≡ compatible_cells (drop i (cells_of xs)) (drop i (cells_of ys))) where
  agree_at : whole ≡ (agree (cell_of (get_or xs i Unbound)) (cell_of (get_or ys i Unbound)) && compatible_cells (drop (i + 1) (cells_of xs)) (drop (i + 1) (cells_of ys)))
  agree_at =
      is ∙ (compatible_step (cells_of xs) (cells_of ys) i (simp length-map (omega arith))
      ∙ (ap (λ c. agree c (cell_at (cells_of ys) i) && compatible_cells (drop (i + 1) (cells_of xs)) (drop (i + 1) (cells_of ys))) (sym (read xs i))
      ∙ ap (λ c. agree (cell_of (get_or xs i Unbound)) c && compatible_cells (drop (i + 1) (cells_of xs)) (drop (i + 1) (cells_of ys))) (sym (read ys i))))

  pub agree_not : agree (cell_of (get_or xs i Unbound)) (cell_of (get_or ys i Unbound)) ≡ false → whole ≡ false
  agree_not e = agree_at ∙ ap (λ b. b && compatible_cells (drop (i + 1) (cells_of xs)) (drop (i + 1) (cells_of ys))) e

  pub agree_on : agree (cell_of (get_or xs i Unbound)) (cell_of (get_or ys i Unbound)) ≡ true → whole ≡ compatible_cells (drop (i + 1) (cells_of xs)) (drop (i + 1) (cells_of ys))
  agree_on e = agree_at ∙ ap (λ b. b && compatible_cells (drop (i + 1) (cells_of xs)) (drop (i + 1) (cells_of ys))) e

compatible_over : (a b : Cells) (i : ℕ) → min (length a) (length b) ≤ i → compatible_cells (drop i a) (drop i b) ≡ true
compatible_over [] b zero h = refl
compatible_over [] b (suc i) h = refl
compatible_over (x ∷ a) [] zero h = refl
compatible_over (x ∷ a) [] (suc i) h = at (drop i a)
  where
    at : (m : Cells) → compatible_cells m [] ≡ true
    at [] = refl
    at (x ∷ m) = refl
compatible_over (x ∷ a) (y ∷ b) zero h = absurd (omega (arith, h))
compatible_over (x ∷ a) (y ∷ b) (suc i) h = compatible_over a b i (omega (arith, h))

pub agree_over : (xs ys : List CompactCell) (i : ℕ) → min (length xs) (length ys) ≤ i → compatible_cells (drop i (cells_of xs)) (drop i (cells_of ys)) ≡ true
agree_over xs ys i h = compatible_over (cells_of xs) (cells_of ys) i (simp length-map h)

-- ---- merged rows

merged_nil : (a : Cells) → merged_cells a [] ≡ a
merged_nil [] = refl
merged_nil (x ∷ a) = refl

fill_one : (a b whole : Cells) (i : ℕ) → i < length a → i < length b → take i a ++ merged_cells (drop i a) (drop i b) ≡ whole
    → take (i + 1) (set a i (first_cell (cell_at a i) (cell_at b i))) ++ merged_cells (drop (i + 1) (set a i (first_cell (cell_at a i) (cell_at b i)))) (drop (i + 1) b) ≡ whole
fill_one a b whole i h k is =
    let y = first_cell (cell_at a i) (cell_at b i) in
    rw (take_more_set a i y h, drop-set-lt (i + 1) a i y (omega arith))
    (append_assoc (take i a) (y ∷ []) (merged_cells (drop (i + 1) a) (drop (i + 1) b))
    ∙ (ap (λ l. take i a ++ l) (rw add-one (sym (put a b i (omega arith)))) ∙ is))

fill_all : (a b : Cells) (i : ℕ) → i ≡ min (length a) (length b) → take i a ++ merged_cells (drop i a) (drop i b) ≡ a ++ drop i b
fill_all [] b zero e = refl
fill_all [] b (suc i) e = absurd (omega (arith, e))
fill_all (x ∷ a) [] zero e = sym (append-nil (x ∷ a))
fill_all (x ∷ a) [] (suc i) e = absurd (omega (arith, e))
fill_all (x ∷ a) (y ∷ b) zero e = absurd (omega (arith, e))
fill_all (x ∷ a) (y ∷ b) (suc i) e = ap (λ l. x ∷ l) (fill_all a b i (omega (arith, e)))

pub filled_one : (xs ys : List CompactCell) (whole : Cells) (i : ℕ) (x z : CompactCell) → i < length xs → i < length ys → x ≡ get_or xs i x → cell_of z ≡ first_cell (cell_of x) (cell_of (get_or ys i Unbound))
    → take i (cells_of xs) ++ merged_cells (drop i (cells_of xs)) (drop i (cells_of ys)) ≡ whole
    → take (i + 1) (cells_of (set xs i z)) ++ merged_cells (drop (i + 1) (cells_of (set xs i z))) (drop (i + 1) (cells_of ys)) ≡ whole
filled_one xs ys whole i x z h k e d is =
    let p : cells_of (set xs i z) ≡ set (cells_of xs) i (first_cell (cell_at (cells_of xs) i) (cell_at (cells_of ys) i)) =
    map-set cell_of xs i z ∙ ap (set (cells_of xs) i) (d ∙ (ap (λ c. first_cell c (cell_of (get_or ys i Unbound))) (there xs i x h e) ∙ ap (first_cell (cell_at (cells_of xs) i)) (read ys i))) in
    ap (λ m. take (i + 1) m ++ merged_cells (drop (i + 1) m) (drop (i + 1) (cells_of ys))) p
    ∙ fill_one (cells_of xs) (cells_of ys) whole i (simp length-map h) (simp length-map k) is

pub filled_all : (xs ys : List CompactCell) (whole : Cells) (i : ℕ) → i ≡ min (length xs) (length ys) → take i (cells_of xs) ++ merged_cells (drop i (cells_of xs)) (drop i (cells_of ys)) ≡ whole → cells_of (xs ++ drop i ys) ≡ whole
filled_all xs ys whole i e is =
    map-append cell_of xs (drop i ys)
    ∙ (ap (λ m. cells_of xs ++ m) (sym (drop-map cell_of i ys))
    ∙ (sym (fill_all (cells_of xs) (cells_of ys) i (simp length-map e)) ∙ is))
