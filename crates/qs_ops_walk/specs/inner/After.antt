-- What follows the names of graphs in a program, where one level serves for both.
use Rattle.std.specs.Prelude.{◌≡◌, ℕ, suc, ◌<◌, ◌≤◌, Bool, true, false, List, [], ◌∷◌, ◌++◌, Option}
use Rattle.std.specs.Prelude.{Some, None, length, get_or, slice_set}
use Rattle.std.specs.List.{flat_map}
use Rattle.qs_terms.specs.Statement.{Statement}
use Rattle.qs_algebra_solutions.specs.Solution.{Solution, term_at, binding}
use Rattle.qs_algebra_solutions.specs.Operators.{merges}
use Rattle.qs_algebra_patterns.specs.declared.pattern.TriplePattern.{TriplePattern}
use Rattle.qs_expr.specs.declared.cell.Cell.{Cell}
use Rattle.qs_expr.specs.inner.Cell.{Cells, cell_at}
use Rattle.qs_plan_meaning.specs.inner.Stages.{each_named}
use Rattle.qs_ops_scans.specs.inner.Each.{NamesGraph, each_joined, misses}
use Rattle.qs_ops_scans.specs.inner.Makes.{Makes}
use Rattle.qs_ops_scans.specs.inner.Prepared.{prepared_triple}
use Rattle.qs_ops_scans.specs.declared.look.PreparedLook.TheVariants as prepared
use Rattle.qs_ops_walk.specs.declared.source.Level.{Level}
use Rattle.qs_ops_walk.specs.declared.source.Source.TheVariants as source
use Rattle.qs_ops_walk.specs.declared.after_names.AfterNames.{AfterNames}
use Rattle.qs_ops_walk.specs.declared.after_names.AfterNames.TheVariants.{Given, Joined, InEach}
use Rattle.qs_ops_walk.specs.declared.after_names.AfterNames.TheVariants.{ByName}
use Rattle.qs_ops_walk.specs.declared.after_names.Each.{Each}
use Rattle.qs_ops_walk.specs.declared.after_names.Joining.{Joining}
use Rattle.qs_ops_walk.specs.declared.work.Naming.{Naming}
use Rattle.qs_ops_walk.specs.declared.work.Place.{Place}
use Rattle.qs_ops_walk.specs.declared.work.Work.TheVariants as work
use Rattle.qs_ops_walk.specs.inner.Setting.{Setting, known_of}

-- the rows that have the register holding each name in turn, merged with a variable that holds it
-- too. `each_joined` isn't stated by it: it matches the pattern name by name, as `each_extension`
-- does, and a law of nested lists would have to join the two
abbrev pub each_merged : List Statement → ℕ → ℕ → ℕ → Solution → List Solution
each_merged quads width v r m =
    flat_map (λ n. merges (binding width (v ∷ []) (term_at n r ∷ []) ∷ []) n) (each_named quads r m)

-- the row with the register bound to the cell, if that names a graph
abbrev pub named_if : Bool → ℕ → Cell → Cells → Option Cells
named_if true r c m = Some (slice_set m r (Some c))
named_if false r c m = None

-- the place gives the names of graphs in the register, and the triple pattern after it, which has
-- no such variable, looks in each of them
pub record IsInEach (ps : List Place) (p : Place) (m : Cells) (each : Each) : Type 0 where
  pub naming : Naming
  pub names : p.work ≡ work.Names naming
  pub register : naming.register ≡ each.register
  pub k : ℕ
  pub follows : p.instr.next ≡ suc k
  pub after : Place
  pub within : k < length ps
  pub stands : after ≡ get_or ps k after
  pub triple : after.work ≡ work.Triple (prepared.Register each.register) each.pattern.now
  pub next : each.next ≡ after.instr.next
  pub apart : misses each.register each.pattern.now ≡ true
  pub cell : each.register < length m

-- the place gives the names of graphs in the register, and a named variable is merged with each
-- right after it
pub record IsJoining (ps : List Place) (p : Place) (m : Cells) (width : ℕ) (j : Joining) : Type
    0 where
  pub naming : Naming
  pub names : p.work ≡ work.Names naming
  pub register : naming.register ≡ j.register
  pub k : ℕ
  pub follows : p.instr.next ≡ suc k
  pub after : Place
  pub within : k < length ps
  pub stands : after ≡ get_or ps k after
  pub joins : after.work ≡ work.Name j.variable j.register
  pub next : j.next ≡ after.instr.next
  pub named : j.variable < width
  pub wide : width ≤ j.register
  pub cell : j.register < length m

-- the triple pattern after that, which has neither the register nor the variable, looks in each of
-- these graphs
pub record IsJoined (ps : List Place) (j : Joining) (each : Each) : Type 0 where
  pub register : each.register ≡ j.register
  pub k : ℕ
  pub follows : j.next ≡ suc k
  pub after : Place
  pub within : k < length ps
  pub stands : after ≡ get_or ps k after
  pub triple : after.work ≡ work.Triple (prepared.Register each.register) each.pattern.now
  pub next : each.next ≡ after.instr.next
  pub apart : misses each.register each.pattern.now ≡ true
  pub other : misses j.variable each.pattern.now ≡ true

-- what follows the place, for the row
abbrev pub IsAfterNames : List Place → Place → Cells → ℕ → AfterNames → Type 0
IsAfterNames ps p m width (Given j c) = IsJoining ps p m width j × (cell_at m j.variable ≡ Some c)
IsAfterNames ps p m width (Joined j each) =
    IsJoining ps p m width j × (IsJoined ps j each × (cell_at m j.variable ≡ None))
IsAfterNames ps p m width (InEach each) = IsInEach ps p m each
IsAfterNames ps p m width ByName = Unit {0}

-- a level for the row with the register bound to the cell, if that names a graph, stands after the
-- others
pub record IsGivenOpened (s : Setting) (j : Joining) (c : Cell) (m : Cells)
    (levels now : List Level) : Type 0 where
  pub named : Bool
  pub items : now ≡ levels
      ++ (record { next = j.next; source = source.Given (named_if named j.register c m) }) ∷ []
  pub tells : NamesGraph s.content c named

-- a level for what the pattern makes, in each named graph, of m merged with the name stands after
-- the others
pub record IsJoinedOpened (s : Setting) (v : ℕ) (each : Each) (m : Cells)
    (levels now : List Level) : Type 0 where
  pub rows : List Cells
  pub items : now ≡ levels ++ (record { next = each.next; source = source.Quads rows }) ∷ []
  pub makes : (p : TriplePattern) → each.pattern.now ≡ prepared_triple (known_of s) p
      → Makes (known_of s) (each_joined s.content.quads s.width v each.register p) m rows
