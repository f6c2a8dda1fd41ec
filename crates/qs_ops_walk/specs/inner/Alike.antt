-- Rows to come that have the same terms at some variables as a row that was given.
use Rattle.std.specs.Prelude.{◌≡◌, ◌⊎◌, ℕ, ◌<◌, false, List, [], ◌∷◌, ◌++◌, take, Option, Some}
use Rattle.std.specs.Prelude.{None}
use Rattle.std.specs.List.{AllByRecursion}
use Rattle.qs_terms.specs.Bag.{SameBag}
use Rattle.qs_terms.specs.declared.term.Term.{Term}
use Rattle.qs_algebra_solutions.specs.Solution.{Solution, projected}
use Rattle.qs_expr.specs.declared.cell.Cell.{Cell}
use Rattle.qs_expr.specs.inner.Cell.{Cells, cell_at, row_solution, FitsRow}
use Rattle.qs_plan_meaning.specs.declared.stage.Stage.{Stage}
use Rattle.qs_plan.specs.inner.Certain.{Keeps}
use Rattle.qs_ops_scans.specs.inner.Skipped.{SkipsRows}
use Rattle.qs_ops_program.specs.inner.Flow.{Instruction, is_union}
use Rattle.qs_ops_walk.specs.declared.source.Level.{Level}
use Rattle.qs_ops_walk.specs.declared.source.Source.{Source}
use Rattle.qs_ops_walk.specs.declared.source.Source.TheVariants.{Given, Triple, Quads, Names, Path}
use Rattle.qs_ops_walk.specs.declared.source.Source.TheVariants.{Probe, Optional, Fork}
use Rattle.qs_ops_walk.specs.declared.work.Place.{Place}
use Rattle.qs_ops_walk.specs.inner.Setting.{Setting, known_of}
use Rattle.qs_ops_walk.specs.inner.Works.{code_of}
use Rattle.qs_ops_walk.specs.inner.Coming.{coming}
use Rattle.qs_ops_walk.specs.inner.Moves.{IsWalk}

-- ---- cells

-- the row has the cell at the variable
abbrev pub HasCell : ℕ → Cell → Cells → Type 0
HasCell v c m = cell_at m v ≡ Some c

abbrev pub HasCellIf : ℕ → Cell → Option Cells → Type 0
HasCellIf v c None = Unit {0}
HasCellIf v c (Some m) = HasCell v c m

-- all rows of the source have the cell at the variable
abbrev pub HasCommon : ℕ → Source → Cell → Type 0
HasCommon v (Given m) c = HasCellIf v c m
HasCommon v (Triple rows) c = AllByRecursion (HasCell v c) rows
HasCommon v (Quads rows) c = AllByRecursion (HasCell v c) rows
HasCommon v (Names rows) c = AllByRecursion (HasCell v c) rows
HasCommon v (Path rows) c = AllByRecursion (HasCell v c) rows
HasCommon v (Probe rows) c = AllByRecursion (HasCell v c) rows
HasCommon v (Optional a) c = AllByRecursion (HasCell v c) a.probe × HasCellIf v c a.alone
HasCommon v (Fork f) c = HasCell v c f.row

-- the variable is named, and all rows of the source have the cell there that m has
pub record SharesCell (width : ℕ) (m : Cells) (source : Source) (v : ℕ) : Type 0 where
  pub named : v < width
  pub cell : Cell
  pub is : cell_at m v ≡ Some cell
  pub common : HasCommon v source cell

abbrev pub IsSourceAlike : ℕ → List ℕ → Cells → Source → Type 0
IsSourceAlike width columns m source =
    (source ≡ Given None) ⊎ AllByRecursion (SharesCell width m source) columns

-- so it is with the last of the levels
pub record IsLastAlike (width : ℕ) (columns : List ℕ) (m : Cells) (levels : List Level) : Type
    0 where
  pub others : List Level
  pub level : Level
  pub are : levels ≡ others ++ level ∷ []
  pub alike : IsSourceAlike width columns m level.source

-- the last of the levels is of a triple pattern, and some of its rows are passed over
pub record PassesTriples (columns : List ℕ) (m : Cells) (old now : List Level) : Type 0 where
  pub others : List Level
  pub next : ℕ
  pub rows : List Cells
  pub left : List Cells
  pub before : old ≡ others ++ (record { next = next; source = Triple rows }) ∷ []
  pub after : now ≡ others ++ (record { next = next; source = Triple left }) ∷ []
  pub skips : SkipsRows columns m rows left

-- so it is, or the levels stay as they were
abbrev pub PassesLast : List ℕ → Cells → List Level → List Level → Type 0
PassesLast columns m old now = (now ≡ old) ⊎ PassesTriples columns m old now

-- ---- stages

-- the stage, if it isn't a union, keeps what a row binds to each of these variables
abbrev pub KeepsAll : List ℕ → Stage → Type 0
KeepsAll columns s = AllByRecursion (λ v. is_union s ≡ false → Keeps v s) columns

-- ---- solutions

-- the solution has the terms of m at these named variables
abbrev pub SharesTerms : ℕ → List ℕ → Solution → Solution → Type 0
SharesTerms width columns m n = projected columns (take width n) ≡ projected columns m

-- what was to come of the levels and isn't any more shares the terms of m
pub record ArePassed (s : Setting) (code : List Instruction) (table : List Term) (columns : List ℕ)
    (m : Cells) (old now : List Level) : Type 0 where
  pub passed : List Solution
  pub bag : SameBag (coming s code table old) (passed ++ coming s code table now)
  pub shared : AllByRecursion (SharesTerms s.width columns (row_solution (known_of s) table m))
      passed

-- the walk goes on, over each setting of so many named variables, and by each table that the row
-- fits
abbrev pub SkipsAlike : ℕ → List Place → List ℕ → Cells → List Level → List Level → Type 0
SkipsAlike width ps columns m old now =
    (s : Setting) (table : List Term) → s.width ≡ width → IsWalk s table ps old
    → FitsRow (known_of s) table m
    → IsWalk s table ps now × ArePassed s (code_of ps) table columns m old now
