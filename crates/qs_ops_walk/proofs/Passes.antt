-- What stages that make at most one row make of a row.
use Rattle.std.proofs.Common.{◌≡◌, ℕ, zero, suc, ◌<◌, ◌≤◌, Bool, true, false, not, List, [], ◌∷◌, ◌++◌, length, map, take, drop, Option, Some, None, slice_set, refl, sym, ◌∙◌, ap, subst, arith}
use Rattle.std.proofs.lemmas.List.{take-append-drop}
use Rattle.std.proofs.Common.{nat_lt, ltb-true, if◌then◌else◌}
use Rattle.std.proofs.lemmas.Bool.Decides.{nat_tests}
use Rattle.std.specs.List.{list_any}
use Rattle.qs_terms.specs.Bag.{SameBag}
use Rattle.qs_terms.specs.declared.term.Term.{Term}
use Rattle.qs_algebra_solutions.specs.Solution.{Solution, term_at, unbound}
use Rattle.qs_algebra_solutions.specs.Operators.{excludes}
use Rattle.qs_algebra_patterns.specs.Eval.{extended}
use Rattle.qs_algebra_patterns.specs.inner.Eval.{bound_to}
use Rattle.qs_expr_meaning.specs.Meaning.{holds, meaning}
use Rattle.qs_expr_meaning.specs.declared.expr.Expr.{Expr}
use Rattle.qs_expr.specs.inner.Cell.{Cells, cell_at, denoted, denoted_if, row_solution, FitsCell, FitsIf, FitsRow}
use Rattle.qs_expr.specs.inner.Scratch.{Grows}
use Rattle.qs_expr.proofs.Growth.{same_row, still_row}
use Rattle.qs_expr.proofs.Rows.{bound_fits, bound_terms}
use Rattle.qs_expr.proofs.Finding.{term_there}
use Rattle.qs_expr.specs.declared.cell.Cell.{Cell}
use Rattle.qs_plan_meaning.specs.declared.stage.Stage.{Stage}
use Rattle.qs_plan_meaning.specs.declared.stage.Stage.TheVariants as stage
use Rattle.qs_plan_meaning.specs.inner.Stages.{kept_if, aside, only}
use Rattle.qs_ops_program.proofs.Levels.{gives_filter, gives_bind, gives_exists, gives_minus}
use Rattle.std.proofs.lemmas.List.Sorted.{list_any-IsPermutation}
use Rattle.qs_terms.specs.Dataset.{names_of}
use Rattle.qs_terms.specs.Term.{same_term}
use Rattle.qs_ops_tables.specs.inner.Tables.{KeptRows, FitRows, row_solutions}
use Rattle.qs_ops_walk.specs.declared.right.Aside.{Aside}
use Rattle.qs_ops_walk.specs.declared.right.Right.{Right}
use Rattle.qs_ops_walk.specs.inner.Works.{name_at, only_at, IsAside, IsRight, Serves, IsExists}
use Rattle.qs_ops_walk.specs.declared.settle.Passes.TheVariants.{One}
use Rattle.qs_ops_walk.specs.inner.Setting.{Setting, known_of, gives_in, graph_in, through_in}
use Rattle.qs_ops_walk.specs.inner.Moves.{IsPassed, bound_if, one_if}
use Rattle.qs_ops_walk.proofs.Keeping.{kept_has}

-- a condition
kept_passes : (s : Setting) (i : Stage) (table : List Term) (m : Cells) (b : Bool) → FitsRow (known_of s) table m → gives_in s i (row_solution (known_of s) table m) ≡ kept_if b (row_solution (known_of s) table m) → IsPassed s i table m table m (one_if b)
kept_passes s i table m true h e = record { rows = e; fits = h }
kept_passes s i table m false h e = e

pub filter_passes : (s : Setting) (table : List Term) (m : Cells) (e : Expr) (b : Bool) → FitsRow (known_of s) table m → b ≡ holds (take s.width (row_solution (known_of s) table m)) e → IsPassed s (stage.Filter e) table m table m (one_if b)
filter_passes s table m e b h is =
    kept_passes s (stage.Filter e) table m b h
    (gives_filter s.width s.content.quads (graph_in s) (row_solution (known_of s) table m) e ∙ ap (λ (c : Bool). kept_if c (row_solution (known_of s) table m)) (sym is))

-- ---- BIND

set_front : (w v : ℕ) (x : Solution) (y : Option Term) → v < w → slice_set (take w x) v y ++ drop w x ≡ slice_set x v y
set_front zero v x y h = absurd (omega arith)
set_front (suc w) zero [] y h = refl
set_front (suc w) (suc v) [] y h = refl
set_front (suc w) zero (a ∷ x) y h = ap (λ xs. y ∷ xs) (take-append-drop w x)
set_front (suc w) (suc v) (a ∷ x) y h = ap (λ xs. a ∷ xs) (set_front w v x y (omega arith))

set_past : (w v : ℕ) (x : Solution) (y : Option Term) → w ≤ v → slice_set (take w x) v y ≡ take w x
set_past zero zero [] y h = refl
set_past zero zero (a ∷ x) y h = refl
set_past zero (suc v) [] y h = refl
set_past zero (suc v) (a ∷ x) y h = refl
set_past (suc w) zero x y h = absurd (omega arith)
set_past (suc w) (suc v) [] y h = refl
set_past (suc w) (suc v) (a ∷ x) y h = ap (λ xs. a ∷ xs) (set_past w v x y (omega arith))

-- a row with a cell bound, or with no value
module _ (known table : List Term) (w v : ℕ) (m : Cells) where
  bound_here : (c : Cell) (t : Term) → denoted known table c ≡ Some t → (b : Bool) → nat_lt v w ≡ b
      → slice_set (take w (row_solution known table m)) v (Some t) ++ drop w (row_solution known table m) ≡ row_solution known table (if b then slice_set m v (Some c) else m)
  bound_here c t d true e =
      let l : v < w = omega (arith, ltb-true v w e) in
      set_front w v (row_solution known table m) (Some t) l ∙ (ap (slice_set (row_solution known table m) v) (sym d) ∙ sym (bound_terms known table m v c))
  bound_here c t d false e =
      let l : w ≤ v = grind (arith, nat_tests) in
      ap (λ (xs : Solution). xs ++ drop w (row_solution known table m)) (set_past w v (row_solution known table m) (Some t) l) ∙ take-append-drop w (row_solution known table m)

  bound_row : (c : Option Cell) → FitsIf known table c
      → bound_to (take w (row_solution known table m)) v (denoted_if known table c) ++ drop w (row_solution known table m) ≡ row_solution known table (bound_if w v c m)
  bound_row None h = take-append-drop w (row_solution known table m)
  bound_row (Some c) h =
      let p = term_there (denoted known table c) (h c refl) in
      ap (λ (x : Option Term). bound_to (take w (row_solution known table m)) v x ++ drop w (row_solution known table m)) p.1
      ∙ bound_here c p.0 p.1 (nat_lt v w) refl

  bound_fit : (c : Cell) (b : Bool) → FitsRow known table m → FitsCell known table c → FitsRow known table (if b then slice_set m v (Some c) else m)
  bound_fit c true h k = bound_fits known table m v c h k
  bound_fit c false h k = h

  bound_row_fits : (c : Option Cell) → FitsRow known table m → FitsIf known table c → FitsRow known table (bound_if w v c m)
  bound_row_fits None h k = h
  bound_row_fits (Some c) h k = bound_fit c (nat_lt v w) h (k c refl)

pub bind_passes : (s : Setting) (old new : List Term) (g : Grows (known_of s) old new) (m n : Cells) (v : ℕ) (e : Expr) (c : Option Cell) → FitsRow (known_of s) old m
    → denoted_if (known_of s) new c ≡ meaning (take s.width (row_solution (known_of s) old m)) e → FitsIf (known_of s) new c → n ≡ bound_if s.width v c m
    → IsPassed s (stage.Bind v e) old m new n One
bind_passes s old new g m n v e c h is k z =
    let known : List Term = known_of s in
    let w : ℕ = s.width in
    let x : Solution = row_solution known old m in
    let y : Solution = row_solution known new m in
    let a : y ≡ x = same_row known old new g m h in
    let b : bound_to (take w y) v (denoted_if known new c) ++ drop w y ≡ row_solution known new (bound_if w v c m) = bound_row known new w v m c k in
    let d : extended v e (take w x) ++ drop w x ≡ bound_to (take w y) v (denoted_if known new c) ++ drop w y =
    ap (λ (o : Option Term). bound_to (take w x) v o ++ drop w x) (sym is) ∙ ap (λ (u : Solution). bound_to (take w u) v (denoted_if known new c) ++ drop w u) (sym a) in record {
      rows = gives_bind w s.content.quads (graph_in s) x v e ∙ ap (λ (u : Solution). u ∷ []) (d ∙ (b ∙ ap (row_solution known new) (sym z)));
      fits = subst (λ (u : Cells). FitsRow known new u) (sym z) (bound_row_fits known new w v m c (still_row known old new g m h) k);
    }

-- ---- Exists
pub exists_passes : (s : Setting) (table : List Term) (m : Cells) (i : Stage) (found : Bool) → FitsRow (known_of s) table m → IsExists s i found → IsPassed s i table m table m (one_if found)
exists_passes s table m i found h is =
    let x : Solution = row_solution (known_of s) table m in
    kept_passes s i table m found h
    (ap (λ (t : Stage). gives_in s t x) is.is ∙ (gives_exists s.width s.content.quads (graph_in s) x is.name ∙ named_kept (list_any (same_term is.name) (names_of s.content.quads)) found is.says x))
  where
    named_kept : (a b : Bool) → b ≡ a → (x : Solution) → (if a then x ∷ [] else []) ≡ kept_if b x
    named_kept a true e x = rw (← e) refl
    named_kept a false e x = rw (← e) refl

-- ---- right sides

pub cell_term : (known table : List Term) (m : Cells) (r : ℕ) → term_at (row_solution known table m) r ≡ denoted_if known table (cell_at m r)
cell_term known table [] zero = refl
cell_term known table [] (suc r) = refl
cell_term known table (c ∷ m) zero = refl
cell_term known table (c ∷ m) (suc r) = cell_term known table m r

pub row_length : (known table : List Term) (m : Cells) → length (row_solution known table m) ≡ length m
row_length known table [] = refl
row_length known table (c ∷ m) = ap suc (row_length known table m)

pub only_is : (s : Setting) (table : List Term) (register : Option ℕ) (m : Cells) (a : Aside) → a.cells ≡ length m → a.name ≡ name_at register m
    → only_at register a.cells (denoted_if (known_of s) table a.name) ≡ only register (row_solution (known_of s) table m)
only_is s table None m a e f = ap unbound (e ∙ sym (row_length (known_of s) table m))
only_is s table (Some r) m a e f =
    ap (λ (n : ℕ). slice_set (unbound n) r (denoted_if (known_of s) table a.name)) (e ∙ sym (row_length (known_of s) table m))
    ∙ ap (slice_set (unbound (length (row_solution (known_of s) table m))) r) (ap (denoted_if (known_of s) table) f ∙ sym (cell_term (known_of s) table m r))

-- ---- MINUS
module _ (s : Setting) (table : List Term) (right : Right) (m : Cells) (k : KeptRows) (h : FitsRow (known_of s) table m) (z : Serves right m k) (r : IsRight s table right) where
  abbrev x : Solution
  x = row_solution (known_of s) table m

  kept_aside : IsAside s table right.register right.group.now.stages z.a
  kept_aside = kept_has (IsAside s table right.register right.group.now.stages) right.kept.list.items (length m) (name_at right.register m) k z r

  -- the kept rows denote what the group makes of this row
  pub serves : SameBag (row_solutions (known_of s) table k.rows) (aside s.width right.register (through_in s right.group.now.stages) x)
  serves =
      let a = kept_aside in
      rw (z.kept) (subst (λ (y : Solution). SameBag (row_solutions (known_of s) table z.a.kept.rows) (map (take s.width) (through_in s right.group.now.stages y))) (only_is s table right.register m z.a z.cells z.name) a.rows)

  pub serves_fit : FitRows (known_of s) table k.rows
  serves_fit = rw (z.kept) kept_aside.fit

  pub minus_passes : (b : Bool) → b ≡ list_any (excludes (take s.width x)) (row_solutions (known_of s) table k.rows) → IsPassed s (stage.Minus right.register right.group.now) table m table m (one_if (not b))
  minus_passes b e =
      kept_passes s (stage.Minus right.register right.group.now) table m (not b) h
      (gives_minus s.width s.content.quads (graph_in s) x right.register right.group.now
      ∙ ap (λ (c : Bool). kept_if (not c) x) (sym (list_any-IsPermutation (excludes (take s.width x)) _ _ serves) ∙ sym e))
