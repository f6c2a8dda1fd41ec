-- The name of a graph, merged with a row.
use Rattle.std.proofs.Common.{◌≡◌, ℕ, Bool, true, false, if◌then◌else◌, List, [], ◌∷◌, Some, None, slice_set, sym, ◌∙◌, ap}
use Rattle.qs_terms.specs.declared.term.Term.{Term}
use Rattle.qs_algebra_solutions.specs.Solution.{Solution, term_at, unbound, merge}
use Rattle.qs_algebra_solutions.specs.Operators.{merges}
use Rattle.qs_expr.specs.inner.Cell.{Cells, cell_at, denoted_if, row_solution, FitsRow}
use Rattle.qs_expr.specs.inner.Row.{TellsCompatible, MergesSolutions, FitsAsBoth, BindsTermIf, FitsWithIf}
use Rattle.qs_expr.specs.inner.Scratch.{IsTable}
use Rattle.qs_plan_meaning.specs.declared.stage.Stage.{Stage}
use Rattle.qs_plan_meaning.specs.declared.stage.Stage.TheVariants as stage
use Rattle.qs_ops_program.specs.inner.Flow.{Instruction}
use Rattle.qs_ops_program.proofs.Levels.{gives_name}
use Rattle.qs_ops_walk.specs.declared.source.Source.TheVariants as source
use Rattle.qs_ops_walk.specs.inner.Setting.{Setting, known_of, gives_in, graph_in}
use Rattle.qs_ops_walk.specs.inner.Coming.{going}
use Rattle.qs_ops_walk.specs.inner.Moves.{Opens}
use Rattle.qs_ops_walk.proofs.Bags.{same}
use Rattle.qs_ops_scans.proofs.OneName.{merges_one}
use Rattle.qs_ops_walk.proofs.NoUnions.{name_is_not}
use Rattle.qs_ops_walk.proofs.Passes.{cell_term}

-- n is the row that binds the variable alone, to what the register of m holds
pub record IsNameRow (width v r : ℕ) (m n : Cells) : Type 0 where
  pub row : Cells
  pub bare : (known table : List Term) → row_solution known table row ≡ unbound width
  pub fit : (known table : List Term) → FitsRow known table row
  pub binds : BindsTermIf row v (cell_at m r) n
  pub fits : FitsWithIf row (cell_at m r) n

module _ (width v r : ℕ) (m n : Cells) (is : IsNameRow width v r m n) (s : Setting) (i : Instruction) (table : List Term) (w : s.width ≡ width) (t : IsTable (known_of s) table) (h : FitsRow (known_of s) table m) (e : i.stage ≡ stage.Name v r) where
  abbrev x : Solution
  x = row_solution (known_of s) table m

  abbrev y : Solution
  y = row_solution (known_of s) table n

  name_terms : y ≡ slice_set (unbound s.width) v (term_at x r)
  name_terms =
      is.binds (known_of s) table
      ∙ (ap (λ (u : Solution). slice_set u v (denoted_if (known_of s) table (cell_at m r))) (is.bare (known_of s) table ∙ ap unbound (sym w))
      ∙ ap (slice_set (unbound s.width) v) (sym (cell_term (known_of s) table m r)))

  name_fits : FitsRow (known_of s) table n
  name_fits = is.fits (known_of s) table (is.fit (known_of s) table) (h.each r)

  name_gives : (b : Bool) → TellsCompatible m n b → gives_in s i.stage x ≡ (if b then merge x y ∷ [] else [])
  name_gives b tells =
      ap (λ (q : Stage). gives_in s q x) e
      ∙ (gives_name s.width s.content.quads (graph_in s) x v r
      ∙ (ap (λ (z : Solution). merges (z ∷ []) x) (sym name_terms) ∙ merges_one x y b (sym (tells (known_of s) table t h name_fits))))

  -- the row is not compatible with the name
  pub name_excluded : TellsCompatible m n false → Opens s i table m table (source.Given None)
  name_excluded tells = record { items = rw (name_is_not i.stage v r e) (same _ _ (ap (going i.next) (sym (name_gives false tells)))); fits = tt }

  -- the row is merged with it
  pub name_merged : (k : Cells) → TellsCompatible m n true → MergesSolutions m n k → FitsAsBoth m n k → Opens s i table m table (source.Given (Some k))
  name_merged k tells merges_to fits = record {
    items = rw (name_is_not i.stage v r e) (same _ _ (ap (going i.next) (ap (λ (u : Solution). u ∷ []) (merges_to (known_of s) table h) ∙ sym (name_gives true tells))));
    fits = fits (known_of s) table h name_fits;
  }
