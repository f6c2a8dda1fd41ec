-- Stages that may be evaluated by themselves wherever they stand: no row tells what they find, and
-- they bind named variables alone.
use Rattle.std.specs.Prelude.{◌≡◌, ℕ, ◌<◌, ◌≤◌, List, length, None}
use Rattle.qs_terms.specs.Statement.{Statement}
use Rattle.qs_algebra_solutions.specs.Solution.{Solution}
use Rattle.qs_algebra_solutions.specs.Operators.{merges}
use Rattle.qs_algebra_patterns.specs.Basic.{Graph}
use Rattle.qs_algebra_patterns.specs.declared.pattern.Slot.{Slot}
use Rattle.qs_algebra_patterns.specs.declared.pattern.Slot.TheVariants as slot
use Rattle.qs_plan_meaning.specs.declared.stage.Stage.{Stage}
use Rattle.qs_plan_meaning.specs.inner.Stages.{aside, fed_rows, through}
use Rattle.qs_plan.specs.inner.Reads.{Leaves}
use Rattle.qs_plan.specs.inner.Sames.{IsScan}

-- the slot holds a term or a named variable
abbrev pub IsNamed : ℕ → Slot → Type 0
IsNamed width (slot.Term t) = Unit {0}
IsNamed width (slot.Variable v) = v < width

-- a stage that looks in no register and binds none of the cells from `width` on
pub record IsPart (width : ℕ) (s : Stage) : Type 0 where
  pub scan : IsScan None s
  pub leaves : (v : ℕ) → width ≤ v → Leaves v s

-- a row has the same merges with what the stages make by themselves as with what they make of the
-- row
pub record IsFedAlike (width : ℕ) (ss : List Stage) : Type 0 where
  pub same : (quads : List Statement) (active : Graph) (m : Solution) → width ≤ length m
      → merges (aside width None (through width quads active ss) m) m
      ≡ merges (fed_rows width (through width quads active ss) m) m
