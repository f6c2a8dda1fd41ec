-- Stages that make the same rows, as a bag, and scans, which merge a row with rows of their own.
use Rattle.std.specs.Prelude.{◌≡◌, ◌≢◌, ◌≤◌, ◌==◌, false, ℕ, List, length, Option, Some, None}
use Rattle.std.specs.List.{AllByRecursion, list_any}
use Rattle.qs_terms.specs.Bag.{SameBag}
use Rattle.qs_terms.specs.Statement.{Statement}
use Rattle.qs_terms.specs.declared.term.Term.{Term}
use Rattle.qs_algebra_solutions.specs.Solution.{Solution, term_at}
use Rattle.qs_algebra_solutions.specs.Operators.{merges}
use Rattle.qs_algebra_patterns.specs.Basic.{Graph}
use Rattle.qs_algebra_patterns.specs.declared.pattern.Slot.{Slot}
use Rattle.qs_algebra_patterns.specs.declared.pattern.Slot.TheVariants as slot
use Rattle.qs_plan_meaning.specs.declared.stage.Stage.{Stage}
use Rattle.qs_plan_meaning.specs.inner.Stages.{gives, through}

-- of each row with a cell for each named variable they make the same
pub record SameStages (ss ts : List Stage) : Type 0 where
  pub same : (width : ℕ) (quads : List Statement) (active : Graph) (m : Solution) → width ≤ length m
      → SameBag (through width quads active ss m) (through width quads active ts m)

-- what the register of a row holds
abbrev pub held : Option ℕ → Solution → Option Term
held None m = None
held (Some r) m = term_at m r

-- a row of the same width that holds the same in the register
pub record Stays (r : Option ℕ) (m q : Solution) : Type 0 where
  pub wide : length q ≡ length m
  pub holds : held r q ≡ held r m

-- a stage that merges each row with a cell for each named variable with rows that the register and
-- the row's width alone determine, and leaves the register
pub record IsScan (r : Option ℕ) (s : Stage) : Type 0 where
  pub rows : ℕ → List Statement → Graph → Option Term → ℕ → List Solution
  pub gives_rows : (width : ℕ) (quads : List Statement) (active : Graph) (m : Solution)
      → width ≤ length m → gives width quads active s m
      ≡ merges (rows width quads active (held r m) (length m)) m
  pub stays : (width : ℕ) (quads : List Statement) (active : Graph) (m : Solution)
      → width ≤ length m → AllByRecursion (Stays r m) (gives width quads active s m)

-- the slot isn't the variable that is the register
abbrev pub Misses : Option ℕ → Slot → Type 0
Misses None s = Unit {0}
Misses (Some r) (slot.Term t) = Unit {0}
Misses (Some r) (slot.Variable v) = v ≢ r

-- no variable of a table is the register
abbrev pub MissesAll : Option ℕ → List ℕ → Type 0
MissesAll None vs = Unit {0}
MissesAll (Some r) vs = list_any (λ w. w == r) vs ≡ false
