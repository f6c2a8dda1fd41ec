-- An evaluation, by its walk.
use Rattle.std.specs.Prelude.{◌≡◌, Bool, true, false, List, [], ◌∷◌, map, take, Option, Some, None}
use Rattle.qs_terms.specs.Bag.{SameBag}
use Rattle.qs_terms.specs.declared.term.Term.{Term}
use Rattle.qs_algebra_solutions.specs.Solution.{Solution}
use Rattle.qs_expr.specs.inner.Cell.{Cells, row_solution, FitsRow}
use Rattle.qs_expr.specs.inner.Scratch.{IsTable}
use Rattle.qs_ops_program.specs.inner.Flow.{Instruction}
use Rattle.qs_ops_walk.specs.inner.Stream.{rows_unless}
use Rattle.qs_ops_walk.specs.declared.source.Level.{Level}
use Rattle.qs_ops_walk.specs.declared.work.Place.{Place}
use Rattle.qs_ops_walk.specs.inner.Setting.{Setting, known_of}
use Rattle.qs_ops_walk.specs.inner.Works.{code_of}
use Rattle.qs_ops_walk.specs.inner.Coming.{coming}
use Rattle.qs_ops_walk.specs.inner.Moves.{IsWalk}

-- the solutions to come over named variables
abbrev pub named_coming : Setting → List Instruction → List Term → List Level → List Solution
named_coming s code table ls = map (take s.width) (coming s code table ls)

abbrev pub rows_left : Bool → Setting → List Term → List Place → List Level → Option (List Solution)
rows_left failed s table ps ls = rows_unless failed (named_coming s (code_of ps) table ls)

-- no level is left, and no error came
abbrev pub is_done : Bool → List Level → Bool
is_done true ls = false
is_done false [] = true
is_done false (l ∷ ls) = false

abbrev pub IsWalkUnless : Bool → Setting → List Term → List Place → List Level → Type 0
IsWalkUnless true s table ps ls = Unit {0}
IsWalkUnless false s table ps ls = IsWalk s table ps ls

pub record IsOp (failed : Bool) (s : Setting) (table : List Term) (ps : List Place)
    (ls : List Level) : Type 0 where
  pub each_once : IsTable (known_of s) table
  pub walk : IsWalkUnless failed s table ps ls

-- the answer is one of the solutions to come over named variables, and the others are left; it is
-- none where none was left, and then no level is
abbrev pub GivesNamed : Setting → List Instruction → List Term → List Level → Option Cells
    → List Term → List Level → Type 0
GivesNamed s code old levels None new now = (named_coming s code old levels ≡ []) × (now ≡ [])
GivesNamed s code old levels (Some row) new now =
    SameBag (named_coming s code old levels)
    (row_solution (known_of s) new row ∷ named_coming s code new now) × FitsRow (known_of s) new row
