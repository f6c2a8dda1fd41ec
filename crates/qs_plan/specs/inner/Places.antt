-- Where the filters of a group go.
use Rattle.std.specs.Prelude.{◌≡◌, ℕ, ◌≤◌, ◌<◌, ◌==◌, Bool, true, List, [], map, length}
use Rattle.std.specs.List.{AllByRecursion, filter, list_all}
use Rattle.qs_terms.specs.Statement.{Statement}
use Rattle.qs_algebra_solutions.specs.Solution.{Solution}
use Rattle.qs_algebra_patterns.specs.Basic.{Graph}
use Rattle.qs_expr_meaning.specs.Meaning.{holds}
use Rattle.qs_expr_meaning.specs.declared.expr.Expr.{Expr}
use Rattle.qs_plan.specs.declared.certain.Size.{Size}
use Rattle.qs_plan.specs.declared.filters.Going.{Going}
use Rattle.qs_plan.specs.inner.Certain.{Begun, Binds, Steady}
use Rattle.qs_plan.specs.inner.Reads.{Settles}
use Rattle.qs_plan_meaning.specs.declared.stage.Stage.{Stage}
use Rattle.qs_plan_meaning.specs.inner.Stages.{through}

-- of each row either all of the one conditions hold, and all of the others, or some don't of both
pub record SameFilters (es fs : List Expr) : Type 0 where
  pub same : (m : Solution) → list_all (holds m) es ≡ list_all (holds m) fs

-- from this place on no stage changes what is bound to the variables that settle the condition
pub record Firm (size : Size) (given : List ℕ) (e : Expr) (n : ℕ) (ss : List Stage) : Type 0 where
  pub variables : List ℕ
  pub settled : Settles variables e
  pub steady : AllByRecursion (λ v. Steady size given v n ss) variables

-- a condition may go to its place among the stages
pub record FirmAt (size : Size) (given : List ℕ) (ss : List Stage) (g : Going) : Type 0 where
  pub within : g.place ≤ length ss
  pub firm : Firm size given g.condition g.place ss

-- the rows after the stages bind the variables that settle the condition, and all are named
pub record Inside (size : Size) (ss : List Stage) (e : Expr) : Type 0 where
  pub variables : List ℕ
  pub settled : Settles variables e
  pub bound : AllByRecursion (λ v. (v < size.width) × Binds size [] v ss) variables

-- the conditions that go to this place, and those that go to it or further
abbrev pub placed_at : ℕ → List Going → List Expr
placed_at n all = map (λ g. g.condition) (filter (λ g. g.place == n) all)

-- what is true of each row that the second stages make is true of each that the first make
pub record Thin (size : Size) (given : List ℕ) (ss ts : List Stage) : Type 0 where
  pub thin : (quads : List Statement) (active : Graph) (m : Solution) → Begun size given m
      → (p : Solution → Bool) → list_all p (through size.width quads active ts m) ≡ true
      → list_all p (through size.width quads active ss m) ≡ true
