-- Stages that are fed rows: what they need of a row, and what they then make of it.
use Rattle.std.specs.Prelude.{◌≡◌, ◌⊎◌, ℕ, ◌≤◌, ◌<◌, ◌==◌, false, true, List, [], ◌∷◌, ◌++◌, map}
use Rattle.std.specs.Prelude.{take, None}
use Rattle.std.specs.List.{AllByRecursion, flat_map, fold, list_any}
use Rattle.qs_terms.specs.Bag.{Distinct, SameBag}
use Rattle.qs_terms.specs.Dataset.{same_triple}
use Rattle.qs_terms.specs.Statement.{Statement, same_statement}
use Rattle.qs_algebra_solutions.specs.Solution.{Solution, term_at, unbound}
use Rattle.qs_algebra_patterns.specs.Basic.{Graph}
use Rattle.qs_algebra_patterns.specs.Eval.{eval}
use Rattle.qs_algebra_patterns.specs.inner.Eval.{step}
use Rattle.qs_algebra_patterns.specs.declared.pattern.PatternNode.{PatternNode}
use Rattle.qs_algebra_patterns.specs.declared.pattern.Step.{Step}
use Rattle.qs_expr_meaning.specs.declared.expr.Expr.{Expr}
use Rattle.qs_plan.specs.declared.certain.Size.{Size}
use Rattle.qs_plan_meaning.specs.declared.stage.Look.{Look}
use Rattle.qs_plan_meaning.specs.declared.stage.Stage.{Stage}
use Rattle.qs_plan_meaning.specs.inner.Stages.{looked, through}
use Rattle.qs_plan.specs.inner.Certain.{Binds}
use Rattle.qs_plan.specs.inner.Fixes.{Found, AreWide, joined_to}
use Rattle.qs_plan.specs.inner.Lays.{Ready, After, Within, Makes, Lays, stepped, all_stepped}
use Rattle.qs_plan.specs.inner.Reads.{LeaveAll, Settles}

-- the row binds none of these variables
abbrev pub Lacks : List ℕ → Solution → Type 0
Lacks needs m = AllByRecursion (λ v. term_at m v ≡ None) needs

-- a row that binds none of the second binds none of the first
pub record Covers (old new : List ℕ) : Type 0 where
  pub lacks : (m : Solution) → Lacks new m → Lacks old m

-- a row that binds none of these doesn't bind the variable
pub record Missing (needs : List ℕ) (v : ℕ) : Type 0 where
  pub none : (m : Solution) → Lacks needs m → term_at m v ≡ None

-- the variable is one that the row must not bind, or one that the stages are certain to bind
abbrev pub Met : Size → List Stage → List ℕ → ℕ → Type 0
Met size ss needs v = Missing needs v ⊎ ((v < size.width) × Binds size [] v ss)

-- what named variable isn't one of these the stages leave as it is
pub record Touches (width : ℕ) (ss : List Stage) (vs : List ℕ) : Type 0 where
  pub leaves : (v : ℕ) → v < width → list_any (λ w. w == v) vs ≡ false → LeaveAll v ss

-- of a row for which this holds the stages make this of the named variables
pub record LaysIf (Holds : Solution → Type 0) (width : ℕ) (place : Look) (from next : ℕ)
    (ss : List Stage) (makes : Makes) : Type 0 where
  pub named : width ≤ from
  pub up : from ≤ next
  pub bag : (quads : List Statement) (active : Graph) → Distinct same_statement quads
      → Distinct same_triple active → (m : Solution) → Ready width false from next m
      → Holds (take width m)
      → SameBag (map (take width) (through width quads active ss m))
      (makes quads (looked quads active place m) (take width m))
  pub after : (quads : List Statement) (active : Graph) (m : Solution)
      → Ready width false from next m → Holds (take width m)
      → AllByRecursion (After width from next m) (through width quads active ss m)

-- of a row that binds none of what is needed they make its merges with these solutions
pub record Feeds (needs : List ℕ) (width : ℕ) (place : Look) (from next : ℕ) (ss : List Stage)
    (found : Found) : Type 0 where
  pub wide : AreWide width found
  pub lays : LaysIf (Lacks needs) width place from next ss (joined_to found)

-- the solutions of a pattern
abbrev pub solutions_of : ℕ → PatternNode → Found
solutions_of width part quads graph = eval width quads part graph

-- what steps make, one after another
abbrev pub after_steps : ℕ → List Step → Found
after_steps width steps quads graph =
    fold (λ left one. step width quads one graph left) (unbound width ∷ []) steps

-- after stages that are fed for some steps, these are for the next step too
pub record FeedsNext (old new : List ℕ) (width : ℕ) (place : Look) (mid next : ℕ)
    (before more : List Stage) (s : Step) : Type 0 where
  pub up : mid ≤ next
  pub follows : (from : ℕ) (steps : List Step) → Within width from place
      → Feeds old width place from mid before (after_steps width steps)
      → Feeds new width place from next (before ++ more) (after_steps width (steps ++ s ∷ []))

-- after stages with which a pattern begins, these make what the step does of what comes of them
pub record LaysNext (width : ℕ) (place : Look) (mid next : ℕ) (before more : List Stage)
    (s : Step) : Type 0 where
  pub up : mid ≤ next
  pub follows : (from : ℕ) (makes : Makes) → Within width from place
      → Lays true width place from mid before makes
      → Lays true width place from next (before ++ more)
      (λ quads graph a. flat_map (stepped width s quads graph) (makes quads graph a))

-- the same of steps, for stages and those after them
pub record LaysRest (width : ℕ) (place : Look) (mid next : ℕ) (before all : List Stage)
    (steps : List Step) : Type 0 where
  pub up : mid ≤ next
  pub follows : (from : ℕ) (makes : Makes) → Within width from place
      → Lays true width place from mid before makes
      → Lays true width place from next all
      (λ quads graph a. flat_map (all_stepped width steps quads graph) (makes quads graph a))

-- ---- what is asked of a row

-- the conditions read variables that the row doesn't bind, or the stages do
pub record Asks (size : Size) (ss : List Stage) (conditions : List Expr) (old new : List ℕ) : Type
    0 where
  pub covers : Covers old new
  pub variables : List ℕ
  pub settled : AllByRecursion (Settles variables) conditions
  pub met : AllByRecursion (Met size ss new) variables

-- so does an OPTIONAL with these stages after those before it, and what the stages need is among it
pub record Sees (size : Size) (before ss : List Stage) (conditions : List Expr)
    (inner old new : List ℕ) : Type 0 where
  pub covers : Covers old new
  pub more : Covers inner new
  pub touched : List ℕ
  pub touches : Touches size.width ss touched
  pub met : AllByRecursion (Met size before new) touched
  pub asks : Asks size before conditions old new
