-- The moves of a walk.
use Rattle.std.specs.Prelude.{◌≡◌, ◌<◌, ◌≤◌, ℕ, suc, ◌+◌, nat_lt, map, length, get_or, Bool, true}
use Rattle.std.specs.Prelude.{false, if◌then◌else◌, List, [], ◌∷◌, ◌++◌, Option, Some, None}
use Rattle.std.specs.Prelude.{slice_set}
use Rattle.qs_terms.specs.declared.term.Term.{Term}
use Rattle.qs_algebra_solutions.specs.Solution.{Solution}
use Rattle.qs_terms.specs.Bag.{SameBag}
use Rattle.qs_expr.specs.inner.Cell.{Cells, row_solution, FitsRow}
use Rattle.qs_expr.specs.inner.Scratch.{IsTable}
use Rattle.qs_expr.specs.declared.cell.Cell.{Cell}
use Rattle.qs_plan_meaning.specs.declared.stage.Stage.{Stage}
use Rattle.qs_plan_meaning.specs.declared.stage.Stage.TheVariants as stage
use Rattle.qs_ops_program.specs.inner.Flow.{Instruction, flow, is_union, IsForward}
use Rattle.qs_ops_program.specs.inner.Toil.{summed, toil}
use Rattle.qs_ops_walk.specs.declared.settle.Passes.{Passes}
use Rattle.qs_ops_walk.specs.declared.settle.Passes.TheVariants.{Nothing, One, Many}
use Rattle.qs_ops_walk.specs.declared.source.Level.{Level}
use Rattle.qs_ops_tables.specs.inner.Tables.{KeptRows, FitsMerges, GivesMerges}
use Rattle.qs_ops_walk.specs.declared.source.Attempt.{Attempt}
use Rattle.qs_ops_walk.specs.declared.source.Source.{Source}
use Rattle.qs_ops_walk.specs.declared.source.Source.TheVariants as source
use Rattle.qs_ops_walk.specs.declared.work.Conditions.{Conditions}
use Rattle.qs_ops_walk.specs.declared.after_names.Each.{Each}
use Rattle.qs_ops_walk.specs.declared.work.Place.{Place}
use Rattle.qs_ops_walk.specs.declared.work.Work.{Work}
use Rattle.qs_ops_walk.specs.declared.work.Work.TheVariants as work
use Rattle.qs_ops_walk.specs.declared.right.Right.{Right}
use Rattle.qs_ops_walk.specs.declared.walk.Step.{Step}
use Rattle.qs_ops_walk.specs.declared.walk.Step.TheVariants.{Done, Moved, Gave}
use Rattle.qs_algebra_patterns.specs.declared.pattern.TriplePattern.{TriplePattern}
use Rattle.qs_plan_meaning.specs.declared.stage.Look.{Look}
use Rattle.qs_plan_meaning.specs.inner.Scans.{extensions}
use Rattle.qs_plan_meaning.specs.inner.Stages.{looked}
use Rattle.qs_ops_scans.specs.inner.Each.{each_extension}
use Rattle.qs_ops_scans.specs.inner.Makes.{Makes}
use Rattle.qs_ops_scans.specs.inner.Prepared.{prepared_look, prepared_triple}
use Rattle.qs_ops_scans.specs.declared.look.PreparedLook.{PreparedLook}
use Rattle.qs_ops_scans.specs.declared.pattern.PreparedTriple.{PreparedTriple}
use Rattle.qs_ops_walk.specs.inner.Setting.{Setting, known_of, gives_in, graph_in}
use Rattle.qs_ops_walk.specs.inner.Works.{AreReady, IsRight, code_of}
use Rattle.qs_ops_walk.specs.inner.Coming.{Going, going, coming, flows, source_items, level_items}
use Rattle.qs_ops_walk.specs.inner.Coming.{FitLevels, FitsLevel, FitsSource}

-- ---- one stage

-- the stage makes n of m, and nothing else
pub record GivesAlone (s : Setting) (i : Stage) (old : List Term) (m : Cells) (new : List Term)
    (n : Cells) : Type 0 where
  pub rows : gives_in s i (row_solution (known_of s) old m) ≡ row_solution (known_of s) new n ∷ []
  pub fits : FitsRow (known_of s) new n

-- what became of m before the stage
abbrev pub IsPassed : Setting → Stage → List Term → Cells → List Term → Cells → Passes → Type 0
IsPassed s i old m new n Nothing = gives_in s i (row_solution (known_of s) old m) ≡ []
IsPassed s i old m new n One = GivesAlone s i old m new n
IsPassed s i old m new n Many = n ≡ m

abbrev pub one_if : Bool → Passes
one_if true = One
one_if false = Nothing

-- m with a named variable bound to the cell
abbrev pub bound_named : ℕ → ℕ → Cell → Cells → Cells
bound_named width v c m = if nat_lt v width then slice_set m v (Some c) else m

abbrev pub bound_if : ℕ → ℕ → Option Cell → Cells → Cells
bound_if width v None m = m
bound_if width v (Some c) m = bound_named width v c m

-- over each setting of so many named variables, and by each table that the row fits
abbrev pub PassesAlone : ℕ → Stage → Cells → Cells → Passes → Type 0
PassesAlone width i m n p =
    (s : Setting) (table : List Term) → s.width ≡ width → IsTable (known_of s) table
    → FitsRow (known_of s) table m → IsPassed s i table m table n p

-- so they do, where the right side is kept as it is to be
abbrev pub PassesMinus : ℕ → Right → Cells → Passes → Type 0
PassesMinus width right m p =
    (s : Setting) (table : List Term) → s.width ≡ width → IsTable (known_of s) table
    → FitsRow (known_of s) table m → IsRight s table right
    → IsPassed s (stage.Minus right.register right.group.now) table m table m p

-- the stage may make many rows
abbrev pub opens : Work → Bool
opens (work.Triple look pattern) = true
opens (work.Path t) = true
opens (work.Names n) = true
opens (work.Exists found) = false
opens (work.Name v r) = true
opens (work.Filter c) = false
opens (work.Bind v e) = false
opens (work.Values v) = true
opens (work.Union starts) = true
opens (work.Optional c) = true
opens (work.Fed feed) = true
opens (work.Minus right) = true
opens (work.Apart right) = true

abbrev pub is_triple : Work → Bool
is_triple (work.Triple look pattern) = true
is_triple (work.Path t) = false
is_triple (work.Names n) = false
is_triple (work.Exists found) = false
is_triple (work.Name v r) = false
is_triple (work.Filter c) = false
is_triple (work.Bind v e) = false
is_triple (work.Values v) = false
is_triple (work.Union starts) = false
is_triple (work.Optional c) = false
is_triple (work.Fed feed) = false
is_triple (work.Minus right) = false
is_triple (work.Apart right) = false

abbrev pub is_optional : Work → Bool
is_optional (work.Triple look pattern) = false
is_optional (work.Path t) = false
is_optional (work.Names n) = false
is_optional (work.Exists found) = false
is_optional (work.Name v r) = false
is_optional (work.Filter c) = false
is_optional (work.Bind v e) = false
is_optional (work.Values v) = false
is_optional (work.Union starts) = false
is_optional (work.Optional c) = true
is_optional (work.Fed feed) = true
is_optional (work.Minus right) = false
is_optional (work.Apart right) = false

-- so may that of the place before the position
abbrev pub OpensAt : List Place → Option ℕ → Type 0
OpensAt ps o = (k : ℕ) → o ≡ Some (suc k) → (k < length ps)
    × ((p : Place) → p ≡ get_or ps k p → opens p.work ≡ true)

-- ---- one row

abbrev pub flow_in : Setting → List Instruction → ℕ → List Term → Cells → List (List (Option Term))
flow_in s code at table m = flow (gives_in s) code at (row_solution (known_of s) table m)

abbrev pub toil_in : Setting → List Instruction → ℕ → List Term → Cells → ℕ
toil_in s code at table m = toil (gives_in s) code at (row_solution (known_of s) table m)

-- what comes of m at `next` is what comes of n at `at`, and with no more moves
pub record Goes (s : Setting) (code : List Instruction) (next : ℕ) (old : List Term) (m : Cells)
    (at : ℕ) (new : List Term) (n : Cells) : Type 0 where
  pub rows : flow_in s code next old m ≡ flow_in s code at new n
  pub toil : toil_in s code at new n ≤ toil_in s code next old m
  pub fits : FitsRow (known_of s) new n

-- where the row goes to, or that nothing comes of it
abbrev pub IsSettled : Setting → List Instruction → ℕ → List Term → Cells → List Term → Cells
    → Option ℕ → Type 0
IsSettled s code next old m new n None = flow_in s code next old m ≡ []
IsSettled s code next old m new n (Some at) = Goes s code next old m at new n

-- ---- the levels

-- the moves that are left
abbrev pub item_moves : Setting → List Instruction → Going → ℕ
item_moves s code x = toil (gives_in s) code x.0 x.1

abbrev pub moves : Setting → List Instruction → List Term → List Level → ℕ
moves s code table [] = 0
moves s code table (l ∷ ls) =
    1 + (moves s code table ls + summed (item_moves s code) (level_items s table l))

-- a walk: its program names positions before alone, and what it keeps fits
pub record IsWalk (s : Setting) (table : List Term) (ps : List Place) (ls : List Level) : Type
    0 where
  pub forward : IsForward (code_of ps)
  pub ready : AreReady s table ps
  pub fit : FitLevels (known_of s) table ls

-- what the instruction makes of a row, and where it goes on
abbrev pub instr_items : Setting → Instruction → Solution → List Going
instr_items s i x = if is_union i.stage then map (λ start. (start, x)) i.starts
    else going i.next (gives_in s i.stage x)

-- the source gives what the instruction makes of m
pub record Opens (s : Setting) (i : Instruction) (old : List Term) (m : Cells) (new : List Term)
    (src : Source) : Type 0 where
  pub items : SameBag (source_items s new i.next src)
      (instr_items s i (row_solution (known_of s) old m))
  pub fits : FitsSource (known_of s) new src

-- the merges of a row with kept rows, under conditions, with the row alone
pub record Attempts (k : KeptRows) (conditions : Conditions) (m : Cells) (a : Attempt) : Type
    0 where
  pub gives : GivesMerges k.rows m a.probe
  pub fits : FitsMerges k.rows m a.probe
  pub tests : a.conditions ≡ conditions
  pub alone : a.alone ≡ Some m

abbrev pub given_unless : Bool → Cells → Source
given_unless true m = source.Given None
given_unless false m = source.Given (Some m)

-- a row merged with the name that its register holds, over each setting of so many named variables
abbrev pub OpensName : ℕ → ℕ → ℕ → Cells → Source → Type 0
OpensName width v r m src =
    (s : Setting) (i : Instruction) (table : List Term) → s.width ≡ width
    → IsTable (known_of s) table → FitsRow (known_of s) table m → i.stage ≡ stage.Name v r
    → Opens s i table m table src

-- the level is what comes of m at the position, and takes no more moves than the program says
pub record OpensTo (s : Setting) (code : List Instruction) (at : ℕ) (old : List Term) (m : Cells)
    (new : List Term) (l : Level) : Type 0 where
  pub rows : SameBag (flows s code (level_items s new l)) (flow_in s code at old m)
  pub moves : 1 + summed (item_moves s code) (level_items s new l) ≤ toil_in s code at old m
  pub fits : FitsLevel (known_of s) new l

-- such a level stands after the others
pub record IsOpened (s : Setting) (code : List Instruction) (at : ℕ) (old : List Term) (m : Cells)
    (levels : List Level) (new : List Term) (now : List Level) : Type 0 where
  pub level : Level
  pub items : now ≡ levels ++ level ∷ []
  pub opens : OpensTo s code at old m new level

-- a level for what the pattern makes of m, in the graph where it looks, stands after the others
pub record IsTripleOpened (s : Setting) (next : ℕ) (look : PreparedLook) (pattern : PreparedTriple)
    (m : Cells) (levels now : List Level) : Type 0 where
  pub rows : List Cells
  pub items : now ≡ levels ++ (record { next = next; source = source.Triple rows }) ∷ []
  pub makes : (place : Look) (p : TriplePattern) → look ≡ prepared_look (known_of s) place
      → pattern ≡ prepared_triple (known_of s) p
      → Makes (known_of s) (λ n. extensions p (looked s.content.quads (graph_in s) place n) n) m
      rows

-- a level for what the pattern makes of m in each named graph stands after the others
pub record IsQuadsOpened (s : Setting) (each : Each) (m : Cells) (levels now : List Level) : Type
    0 where
  pub rows : List Cells
  pub items : now ≡ levels ++ (record { next = each.next; source = source.Quads rows }) ∷ []
  pub makes : (p : TriplePattern) → each.pattern.now ≡ prepared_triple (known_of s) p
      → Makes (known_of s) (each_extension s.content.quads each.register p) m rows

-- one move
abbrev pub IsStep : Setting → List Instruction → List Term → List Level → Step → List Term
    → List Level → Type 0
IsStep s code old levels Done new now = (coming s code old levels ≡ []) × (now ≡ [])
IsStep s code old levels Moved new now = SameBag (coming s code old levels) (coming s code new now)
    × (moves s code new now < moves s code old levels)
IsStep s code old levels (Gave row) new now =
    SameBag (coming s code old levels) (row_solution (known_of s) new row ∷ coming s code new now)
    × FitsRow (known_of s) new row

-- the last level is of a triple pattern, its rows are finished, and m was the first of them
pub record TakesFinished (old : List Level) (m : Cells) (now : List Level) : Type 0 where
  pub levels : List Level
  pub rows : List Cells
  pub before : old ≡ levels ++ (record { next = 0; source = source.Triple (m ∷ rows) }) ∷ []
  pub after : now ≡ levels ++ (record { next = 0; source = source.Triple rows }) ∷ []

-- the row was such a one, or the levels stay as they were
abbrev pub Finishes : List Level → Option Cells → List Level → Type 0
Finishes old None now = now ≡ old
Finishes old (Some m) now = TakesFinished old m now

-- the answer is one of the solutions to come, and the others are left; it is none where none was
-- left, and then no level is
abbrev pub GivesRow : Setting → List Instruction → List Term → List Level → Option Cells → List Term
    → List Level → Type 0
GivesRow s code old levels None new now = (coming s code old levels ≡ []) × (now ≡ [])
GivesRow s code old levels (Some row) new now =
    SameBag (coming s code old levels) (row_solution (known_of s) new row ∷ coming s code new now)
    × FitsRow (known_of s) new row
