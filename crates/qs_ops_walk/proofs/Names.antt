-- What the stage of a graph's name makes of a row.
use Rattle.std.proofs.Common.{◌≡◌, ℕ, zero, suc, ◌<◌, ◌≤◌, Bool, true, false, List, [], ◌∷◌, length, Option, Some, None, slice_set, if◌then◌else◌, refl, sym, ◌∙◌, ap}
use Rattle.qs_terms.specs.declared.term.Term.{Term}
use Rattle.qs_algebra_solutions.specs.Solution.{Solution, term_at, unbound, compatible_terms}
use Rattle.qs_algebra_solutions.specs.inner.Solution.{first_bound}
use Rattle.qs_algebra_solutions.specs.Operators.{merges}
use Rattle.qs_expr.specs.inner.Cell.{Cells, cell_at, denoted, denoted_if, row_solution, FitsRow}
use Rattle.qs_expr.specs.inner.Scratch.{IsTable, TellsSameTerm}
use Rattle.qs_expr.specs.declared.cell.Cell.{Cell}
use Rattle.qs_expr.proofs.Rows.{bound_fits, bound_terms}
use Rattle.qs_expr.proofs.Finding.{term_there}
use Rattle.qs_plan_meaning.specs.declared.stage.Stage.TheVariants as stage
use Rattle.qs_ops_program.proofs.Levels.{gives_name}
use Rattle.qs_ops_walk.specs.declared.settle.Passes.TheVariants.{One}
use Rattle.qs_ops_walk.specs.inner.Setting.{Setting, known_of, gives_in, graph_in}
use Rattle.qs_ops_walk.specs.inner.Moves.{IsPassed, one_if}
use Rattle.qs_ops_scans.proofs.OneName.{merges_named, none_agrees, none_first}
use Rattle.qs_ops_walk.proofs.Passes.{cell_term, row_length}

pub set_own : (y : Solution) (v : ℕ) → slice_set y v (term_at y v) ≡ y
set_own [] zero = refl
set_own [] (suc v) = refl
set_own (a ∷ y) zero = refl
set_own (a ∷ y) (suc v) = ap (λ (u : Solution). a ∷ u) (set_own y v)

module _ (s : Setting) (table : List Term) (m : Cells) (v r : ℕ) (h : FitsRow (known_of s) table m) (l : v < s.width) (long : s.width ≤ length m) where
  abbrev known : List Term
  known = known_of s

  abbrev y : Solution
  y = row_solution known table m

  given : (c : Bool) (x : Option Term) → denoted_if known table (cell_at m r) ≡ x → compatible_terms (term_at y v) x ≡ c
      → gives_in s (stage.Name v r) y ≡ (if c then slice_set y v (first_bound (term_at y v) x) ∷ [] else [])
  given c x e f =
      let long_row : s.width ≤ length y = rw (row_length known table m) long in
      gives_name s.width s.content.quads (graph_in s) y v r
      ∙ (ap (λ (z : Option Term). merges (slice_set (unbound s.width) v z ∷ []) y) (cell_term known table m r ∙ e)
      ∙ merges_named y s.width v x c l long_row f)

  pub name_none : cell_at m r ≡ None → IsPassed s (stage.Name v r) table m table m One
  name_none e = record {
    rows = given true None (ap (denoted_if known table) e) (none_agrees (term_at y v)) ∙ ap (λ (u : Solution). u ∷ []) (ap (slice_set y v) (none_first (term_at y v)) ∙ set_own y v);
    fits = h;
  }

  pub name_binds : (c : Cell) → cell_at m r ≡ Some c → cell_at m v ≡ None → IsPassed s (stage.Name v r) table m table (slice_set m v (Some c)) One
  name_binds c e f =
      let p : term_at y v ≡ None = cell_term known table m v ∙ ap (denoted_if known table) f in record {
        rows = given true (denoted known table c) (ap (denoted_if known table) e) (ap (λ (x : Option Term). compatible_terms x (denoted known table c)) p)
            ∙ ap (λ (u : Solution). u ∷ []) (ap (λ (x : Option Term). slice_set y v (first_bound x (denoted known table c))) p ∙ sym (bound_terms known table m v c));
        fits = bound_fits known table m v c h (h.each r c e);
      }

  pub name_agrees : IsTable known table → (c d : Cell) (b : Bool) → cell_at m r ≡ Some c → cell_at m v ≡ Some d → TellsSameTerm d c b → IsPassed s (stage.Name v r) table m table m (one_if b)
  name_agrees t c d b e f same =
      let tc = term_there (denoted known table c) (h.each r c e) in
      let td = term_there (denoted known table d) (h.each v d f) in
      let p : term_at y v ≡ Some td.0 = cell_term known table m v ∙ (ap (denoted_if known table) f ∙ td.1) in
      let q : denoted_if known table (cell_at m r) ≡ Some tc.0 = ap (denoted_if known table) e ∙ tc.1 in
      let k : compatible_terms (term_at y v) (Some tc.0) ≡ b = ap (λ (x : Option Term). compatible_terms x (Some tc.0)) p ∙ sym (same known table td.0 tc.0 t td.1 tc.1) in
      let u : slice_set y v (first_bound (term_at y v) (Some tc.0)) ≡ y = ap (λ (x : Option Term). slice_set y v (first_bound x (Some tc.0))) p ∙ (ap (slice_set y v) (sym p) ∙ set_own y v) in
      at b (given b (Some tc.0) q k ∙ ap (λ (z : Solution). if b then z ∷ [] else []) u)
    where
      at : (b : Bool) → gives_in s (stage.Name v r) y ≡ (if b then y ∷ [] else []) → IsPassed s (stage.Name v r) table m table m (one_if b)
      at true g = record { rows = g; fits = h }
      at false g = g
