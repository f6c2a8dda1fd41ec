-- Solutions with terms of their own, variable by variable.
use Rattle.std.proofs.Common.{◌≡◌, ℕ, zero, suc, ◌+◌, ◌<◌, ◌≤◌, get_or, Option, Some, None, List, [], ◌∷◌, length, refl, sym, ◌∙◌, ap, add-one, arith}
use Rattle.std.proofs.Math.ListN.{get_or-map}
use Rattle.qs_terms.specs.declared.term.Term.{Term}
use Rattle.qs_algebra_solutions.specs.Solution.{Solution, projected, term_at, unbound}
use Rattle.qs_expr.specs.declared.cell.Cell.{Cell}
use Rattle.qs_expr.specs.inner.Cell.{Cells, cell_at, denoted, denoted_if, row_solution}
use Rattle.qs_query_solutions.specs.inner.Front.{front, with_term}

-- ---- the term of a variable

module _ (known table : List Term) (m : Cells) where
  read_at : (v : ℕ) → term_at (row_solution known table m) v ≡ denoted_if known table (cell_at m v)
  read_at v = get_or-map (denoted_if known table) m v None

  pub term_read : (v : ℕ) (c : Cell) (t : Term) → Some c ≡ cell_at m v → denoted known table c ≡ Some t → Some t ≡ term_at (row_solution known table m) v
  term_read v c t e h = sym (read_at v ∙ (ap (denoted_if known table) (sym e) ∙ h))

  pub none_read : (v : ℕ) → None ≡ cell_at m v → None ≡ term_at (row_solution known table m) v
  none_read v e = sym (read_at v ∙ ap (denoted_if known table) (sym e))

-- ---- one variable after another

with_later : (c : Option Term) (m : Solution) (v : ℕ) (o : Option Term) → with_term (c ∷ m) (suc v) o ≡ c ∷ with_term m v o
with_later c m v None = refl
with_later c m v (Some t) = refl

with_first : (m : Solution) (o : Option Term) → with_term (None ∷ m) zero o ≡ o ∷ m
with_first m None = refl
with_first m (Some t) = refl

suc_front : (i n : ℕ) (m : Solution) → i < n → with_term (front i n m) i (term_at m i) ≡ front (suc i) n m
suc_front i zero m h = absurd (omega arith)
suc_front zero (suc n) [] h = refl
suc_front zero (suc n) (t ∷ m) h = with_first (unbound n) t
suc_front (suc i) (suc n) [] h = refl
suc_front (suc i) (suc n) (t ∷ m) h =
    with_later t (front i n m) i (term_at m i) ∙ ap (λ r. t ∷ r) (suc_front i n m (omega arith))

-- one variable more
pub front_more : (i n : ℕ) (m : Solution) → i < n → with_term (front i n m) i (term_at m i) ≡ front (i + 1) n m
front_more i n m h = rw add-one (suc_front i n m h)

-- all variables
pub front_all : (m : Solution) → front (length m) (length m) m ≡ m
front_all [] = refl
front_all (t ∷ m) = ap (λ r. t ∷ r) (front_all m)

solution_long : (known table : List Term) (m : Cells) → length (row_solution known table m) ≡ length m
solution_long known table [] = refl
solution_long known table (c ∷ m) = ap (λ n. suc n) (solution_long known table m)

pub solution_whole : (known table : List Term) (m : Cells) (w i : ℕ) (s : Solution) → w ≡ length m → s ≡ front i w (row_solution known table m) → i ≤ w → w ≤ i → s ≡ row_solution known table m
solution_whole known table m w i s e f up down =
    let n : i ≡ length (row_solution known table m) = antisym (e ∙ sym (solution_long known table m)) in
    let k : w ≡ length (row_solution known table m) = e ∙ sym (solution_long known table m) in
    f ∙ (ap (λ j. front j w (row_solution known table m)) n ∙ (ap (λ j. front (length (row_solution known table m)) j (row_solution known table m)) k ∙ front_all (row_solution known table m)))
  where
    antisym : w ≡ length (row_solution known table m) → i ≡ length (row_solution known table m)
    antisym k = let j : i ≡ w = omega (arith, up, down) in j ∙ k

-- ---- one column after another

term_of_column : (columns : List ℕ) (m : Solution) (i : ℕ) → i < length columns → term_at (projected columns m) i ≡ term_at m (get_or columns i 0)
term_of_column [] m i h = absurd (omega (arith, h))
term_of_column (c ∷ columns) m zero h = refl
term_of_column (c ∷ columns) m (suc i) h = term_of_column columns m i (omega (arith, h))

pub column_more : (columns : List ℕ) (m : Solution) (i : ℕ) (s s2 : Solution) (o : Option Term) → i < length columns → s ≡ front i (length columns) (projected columns m) → o ≡ term_at m (get_or columns i 0) → s2 ≡ with_term s i o → s2 ≡ front (i + 1) (length columns) (projected columns m)
column_more columns m i s s2 o h e f g =
    g ∙ (ap (λ x. with_term x i o) e
    ∙ (ap (with_term (front i (length columns) (projected columns m)) i) (f ∙ sym (term_of_column columns m i h)) ∙ front_more i (length columns) (projected columns m) h))

columns_long : (columns : List ℕ) (m : Solution) → length (projected columns m) ≡ length columns
columns_long [] m = refl
columns_long (c ∷ columns) m = ap (λ n. suc n) (columns_long columns m)

pub columns_whole : (columns : List ℕ) (m : Solution) (i : ℕ) (s : Solution) → s ≡ front i (length columns) (projected columns m) → i ≤ length columns → length columns ≤ i → s ≡ projected columns m
columns_whole columns m i s e up down =
    let j : i ≡ length columns = omega (arith, up, down) in
    e ∙ (ap (λ n. front n (length columns) (projected columns m)) j ∙ (ap (λ n. front n n (projected columns m)) (sym (columns_long columns m)) ∙ front_all (projected columns m)))
