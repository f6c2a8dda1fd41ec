-- What the levels of a walk are still to give, by the scratch table as it is.
use Rattle.std.specs.Prelude.{◌≡◌, ℕ, List, [], ◌∷◌, ◌++◌, map, drop, take, Option, Some, None}
use Rattle.std.specs.List.{AllByRecursion, filter, flat_map}
use Rattle.qs_terms.specs.declared.term.Term.{Term}
use Rattle.qs_algebra_solutions.specs.Solution.{Solution}
use Rattle.qs_algebra_patterns.specs.Eval.{all_hold}
use Rattle.qs_expr.specs.inner.Cell.{Cells, row_solution, FitsRow}
use Rattle.qs_expr.specs.inner.Condition.{IsPreparedFor}
use Rattle.qs_ops_program.specs.inner.Flow.{Instruction, flow}
use Rattle.qs_ops_tables.specs.inner.Tables.{FitRows, row_solutions}
use Rattle.qs_ops_walk.specs.declared.source.Attempt.{Attempt}
use Rattle.qs_ops_walk.specs.declared.source.Fork.{Fork as Branching}
use Rattle.qs_ops_walk.specs.declared.source.Item.{Item}
use Rattle.qs_ops_walk.specs.declared.source.Level.{Level}
use Rattle.qs_ops_walk.specs.declared.source.Source.{Source}
use Rattle.qs_ops_walk.specs.declared.source.Source.TheVariants.{Given, Triple, Quads, Names, Path}
use Rattle.qs_ops_walk.specs.declared.source.Source.TheVariants.{Probe, Optional, Fork}
use Rattle.qs_ops_walk.specs.inner.Setting.{Setting, known_of, gives_in}
use Rattle.qs_ops_walk.specs.inner.Works.{expr_of}

-- ---- sources

abbrev pub row_if : List Term → List Term → Option Cells → List Solution
row_if known table None = []
row_if known table (Some m) = row_solution known table m ∷ []

-- the row alone, where there is one and the list is empty
abbrev pub or_else : List Term → List Term → Option Cells → List Solution → List Solution
or_else known table None xs = xs
or_else known table (Some m) [] = row_solution known table m ∷ []
or_else known table (Some m) (x ∷ xs) = x ∷ xs

abbrev pub attempted : Setting → List Term → Attempt → List Solution
attempted s table a =
    or_else (known_of s) table a.alone
    (filter (λ n. all_hold (map expr_of a.conditions.list.items) (take s.width n))
    (row_solutions (known_of s) table a.probe))

-- ---- levels

-- a solution, and the position where it goes on
abbrev pub Going : Type 0
Going = ℕ × Solution

abbrev pub going : ℕ → List Solution → List Going
going next xs = map (λ x. (next, x)) xs

-- the branches that the row is still to go through
abbrev pub forked : List Term → List Term → Branching → List Going
forked known table f =
    map (λ start. (start, row_solution known table f.row)) (drop f.at f.starts.list.items)

abbrev pub source_items : Setting → List Term → ℕ → Source → List Going
source_items s table next (Given m) = going next (row_if (known_of s) table m)
source_items s table next (Triple rows) = going next (row_solutions (known_of s) table rows)
source_items s table next (Quads rows) = going next (row_solutions (known_of s) table rows)
source_items s table next (Names rows) = going next (row_solutions (known_of s) table rows)
source_items s table next (Path rows) = going next (row_solutions (known_of s) table rows)
source_items s table next (Probe rows) = going next (row_solutions (known_of s) table rows)
source_items s table next (Optional a) = going next (attempted s table a)
source_items s table next (Fork f) = forked (known_of s) table f

abbrev pub level_items : Setting → List Term → Level → List Going
level_items s table l = source_items s table l.next l.source

-- what comes of them
abbrev pub flows : Setting → List Instruction → List Going → List Solution
flows s code xs = flat_map (λ (x : Going). flow (gives_in s) code x.0 x.1) xs

-- THE SOLUTIONS TO COME, the last level first
abbrev pub coming : Setting → List Instruction → List Term → List Level → List Solution
coming s code table [] = []
coming s code table (l ∷ ls) = coming s code table ls ++ flows s code (level_items s table l)

-- ---- what fits

abbrev pub FitsOption : List Term → List Term → Option Cells → Type 0
FitsOption known table None = Unit {0}
FitsOption known table (Some m) = FitsRow known table m

pub record FitsAttempt (known table : List Term) (a : Attempt) : Type 0 where
  pub rows : FitRows known table a.probe
  pub alone : FitsOption known table a.alone
  pub prepared : AllByRecursion (IsPreparedFor known) a.conditions.list.items

abbrev pub FitsSource : List Term → List Term → Source → Type 0
FitsSource known table (Given m) = FitsOption known table m
FitsSource known table (Triple rows) = FitRows known table rows
FitsSource known table (Quads rows) = FitRows known table rows
FitsSource known table (Names rows) = FitRows known table rows
FitsSource known table (Path rows) = FitRows known table rows
FitsSource known table (Probe rows) = FitRows known table rows
FitsSource known table (Optional a) = FitsAttempt known table a
FitsSource known table (Fork f) = FitsRow known table f.row

abbrev pub FitsLevel : List Term → List Term → Level → Type 0
FitsLevel known table l = FitsSource known table l.source

abbrev pub FitLevels : List Term → List Term → List Level → Type 0
FitLevels known table ls = AllByRecursion (FitsLevel known table) ls

-- ---- the next row of a level

abbrev pub going_of : List Term → List Term → Item → Going
going_of known table i = (i.next, row_solution known table i.row)

-- the item is the first of those that were to come, and the others are to come; it is none where
-- there were none
abbrev pub GivesItem : Setting → List Term → List Going → Option Item → List Going → Type 0
GivesItem s table old None new = old ≡ []
GivesItem s table old (Some i) new =
    (old ≡ going_of (known_of s) table i ∷ new) × FitsRow (known_of s) table i.row

-- the row is the first of those that were to come, and the others are to come; it is none where
-- there were none
abbrev pub GivesSolution : List Term → List Term → List Solution → Option Cells → List Solution
    → Type 0
GivesSolution known table old None new = (old ≡ []) × (new ≡ [])
GivesSolution known table old (Some m) new =
    (old ≡ row_solution known table m ∷ new) × FitsRow known table m

-- the row, before the next of its branches
abbrev pub GivesBranch : Branching → Option Item → Branching → Type 0
GivesBranch old None new = drop old.at old.starts.list.items ≡ []
GivesBranch old (Some i) new =
    (drop old.at old.starts.list.items ≡ i.next ∷ drop new.at old.starts.list.items)
    × (i.row ≡ old.row)

abbrev pub item_if : ℕ → Option Cells → Option Item
item_if next None = None
item_if next (Some m) = Some (record { next = next; row = m })
