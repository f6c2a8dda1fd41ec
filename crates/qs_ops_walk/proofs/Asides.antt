-- What is kept of right sides, and what is opened over it.
use Rattle.std.proofs.Common.{◌≡◌, ℕ, Bool, true, false, List, map, take, Option, Some, None, slice_set, refl, sym, ◌∙◌, ap, subst}
use Rattle.std.specs.List.{AllByRecursion}
use Rattle.qs_terms.specs.Bag.{SameBag}
use Rattle.qs_terms.specs.declared.term.Term.{Term}
use Rattle.qs_algebra_solutions.specs.Solution.{Solution}
use Rattle.qs_expr.specs.inner.Cell.{Cells, denoted_if, row_solution, FitsIf, FitsRow}
use Rattle.qs_expr.specs.inner.Row.{no_cells}
use Rattle.qs_expr.specs.inner.Scratch.{IsTable, Grows}
use Rattle.qs_expr.specs.declared.cell.Cell.{Cell}
use Rattle.qs_expr.proofs.Growth.{still_fits, still_same}
use Rattle.qs_expr.proofs.Rows.{no_cells_unbound, no_cells_fit, set_terms, set_fits}
use Rattle.qs_plan_meaning.specs.declared.stage.Stage.{Stage}
use Rattle.qs_plan_meaning.specs.declared.stage.Stage.TheVariants as stage
use Rattle.qs_ops_program.specs.inner.Flow.{Instruction}
use Rattle.qs_ops_tables.specs.inner.Tables.{KeptRows, FitRows, TellsExcluded, row_solutions}
use Rattle.qs_ops_walk.specs.declared.source.Source.TheVariants as source
use Rattle.qs_ops_walk.specs.declared.work.Choice.{Choice}
use Rattle.qs_ops_walk.specs.declared.work.Conditions.{Conditions}
use Rattle.qs_ops_walk.specs.declared.right.Aside.{Aside}
use Rattle.qs_ops_walk.specs.declared.right.Right.{Right}
use Rattle.qs_ops_walk.specs.declared.source.Attempt.{Attempt}
use Rattle.qs_ops_walk.specs.inner.Setting.{Setting, known_of, through_in}
use Rattle.qs_ops_walk.specs.inner.Works.{name_at, only_at, only_cells, IsAside, IsOptional, IsPut, IsRight, Serves}
use Rattle.qs_ops_walk.specs.inner.Moves.{Attempts, Opens, given_unless}
use Rattle.qs_ops_walk.proofs.Opens.{opens_optional, opens_minus}
use Rattle.qs_ops_walk.proofs.Still.{right_still}
use Rattle.qs_ops_walk.proofs.Keeping.{put_all}

module _ (known table : List Term) where
  pub name_fits : (register : Option ℕ) (m : Cells) → FitsRow known table m → FitsIf known table (name_at register m)
  name_fits None m h c e = absurd (cc)
  name_fits (Some r) m h c e = h.each r c e

  pub only_fits : (register : Option ℕ) (n : ℕ) (x : Option Cell) → FitsIf known table x → FitsRow known table (only_cells register n x)
  only_fits None n x h = no_cells_fit known table n
  only_fits (Some r) n x h = set_fits known table (no_cells n) r x (no_cells_fit known table n) h

  only_terms : (register : Option ℕ) (n : ℕ) (x : Option Cell) → row_solution known table (only_cells register n x) ≡ only_at register n (denoted_if known table x)
  only_terms None n x = no_cells_unbound known table n
  only_terms (Some r) n x = set_terms known table (no_cells n) r x ∙ ap (λ (y : Solution). slice_set y r (denoted_if known table x)) (no_cells_unbound known table n)

  name_still : (new : List Term) (g : Grows known table new) (x : Option Cell) → FitsIf known table x → FitsIf known new x
  name_still new g x h c e = still_fits known table new g c (h c e)

  name_same : (new : List Term) (g : Grows known table new) (x : Option Cell) → FitsIf known table x → denoted_if known new x ≡ denoted_if known table x
  name_same new g None h = refl
  name_same new g (Some c) h = still_same known table new g c (h c refl)

-- the rows of the group, kept
pub aside_made : (s : Setting) (t0 t1 : List Term) (g : Grows (known_of s) t0 t1) (register : Option ℕ) (stages : List Stage) (x : Option Cell) (n : ℕ) (alone : Cells) (rows : List Cells) (k : KeptRows)
    → FitsIf (known_of s) t0 x → alone ≡ only_cells register n x → k.rows ≡ rows
    → SameBag (row_solutions (known_of s) t1 rows) (map (take s.width) (through_in s stages (row_solution (known_of s) t0 alone))) → FitRows (known_of s) t1 rows
    → (count : ℕ) → IsAside s t1 register stages (record { cells = n; name = x; row_count = count; kept = k })
aside_made s t0 t1 g register stages x n alone rows k h e f bag fit count =
    let a : row_solution (known_of s) t0 alone ≡ only_at register n (denoted_if (known_of s) t1 x) =
    ap (row_solution (known_of s) t0) e ∙ (only_terms (known_of s) t0 register n x ∙ ap (only_at register n) (sym (name_same (known_of s) t0 t1 g x h))) in record {
      rows = rw f (subst (λ (y : Solution). SameBag (row_solutions (known_of s) t1 rows) (map (take s.width) (through_in s stages y))) a bag);
      fit = rw f fit;
      name = name_still (known_of s) t0 t1 g x h;
    }

-- one more is kept, by a table that grew since
pub right_more : (s : Setting) (old new : List Term) → Grows (known_of s) old new → (before after : Right) (a : Aside) → IsRight s old before → after.register ≡ before.register → after.group.now ≡ before.group.now
    → IsPut before.kept.list.items a after.kept.list.items → IsAside s new before.register before.group.now.stages a → IsRight s new after
right_more s old new g before after a h r f put is =
    let all : AllByRecursion (IsAside s new before.register before.group.now.stages) after.kept.list.items =
    put_all (IsAside s new before.register before.group.now.stages) before.kept.list.items a after.kept.list.items put (right_still s old new g before h) is in
    rw (r, f) all

module _ (s : Setting) (i : Instruction) (old new : List Term) (m : Cells) (t : IsTable (known_of s) new) (g : Grows (known_of s) old new) (h : FitsRow (known_of s) old m) (right : Right) (k : KeptRows) (z : Serves right m k) (r : IsRight s new right) where
  pub opens_attempt : (before : Right) (is_alike : Bool) (conditions : Conditions) → right.register ≡ before.register → right.group.now ≡ before.group.now → IsOptional s old i.stage before is_alike conditions.list.items
      → (b : Attempt) → Attempts k conditions m b → Opens s i old m new (source.Optional b)
  opens_attempt before is_alike conditions e f is b a =
      let o : IsOptional s new i.stage right is_alike conditions.list.items = record { is = rw (e, f) is.is; alike = rw (e, f) is.alike; prepared = is.prepared; kept = r } in
      opens_optional s i old new m t g h right k z r is_alike b (rw a.tests o) a.alone a.gives a.fits

  pub opens_unless : (before : Right) → right.register ≡ before.register → right.group.now ≡ before.group.now → i.stage ≡ stage.Minus before.register before.group.now
      → (b : Bool) → TellsExcluded k.rows s.width m b → Opens s i old m new (given_unless b m)
  opens_unless before e f is true tells = opens_minus s i old new m t g h right k z r true None (rw (e, f) is) tells refl
  opens_unless before e f is false tells = opens_minus s i old new m t g h right k z r false (Some m) (rw (e, f) is) tells refl

-- an OPTIONAL of which only what is kept changed, by a table that grew since
pub optional_still : (s : Setting) (i : Stage) (old mid new : List Term) → Grows (known_of s) mid new → (before after : Choice) → IsOptional s old i before.right before.is_alike before.conditions.list.items
    → after.right.register ≡ before.right.register → after.right.group.now ≡ before.right.group.now → after.conditions ≡ before.conditions → after.is_alike ≡ before.is_alike
    → IsRight s mid after.right → IsOptional s new i after.right after.is_alike after.conditions.list.items
optional_still s i old mid new g before after o r f c a k = record {
  is = rw (r, f, c) o.is;
  alike = rw (a, r, f) o.alike;
  prepared = rw c o.prepared;
  kept = right_still s mid new g after.right k;
}
