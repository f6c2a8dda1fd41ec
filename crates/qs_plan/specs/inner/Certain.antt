-- Which variables rows are certain to bind, and which stages keep what is bound.
use Rattle.std.specs.Prelude.{◌≡◌, ◌⊎◌, ℕ, ◌≤◌, ◌<◌, List, length, take, drop, get_or, Option, None}
use Rattle.std.specs.Prelude.{IsSome, slice_index_or}
use Rattle.std.specs.List.{AllByRecursion}
use Rattle.qs_terms.specs.Bag.{SameBag}
use Rattle.qs_terms.specs.Statement.{Statement}
use Rattle.qs_algebra_solutions.specs.Solution.{Solution, term_at}
use Rattle.qs_algebra_patterns.specs.Basic.{Graph}
use Rattle.qs_algebra_patterns.specs.declared.pattern.Slot.TheVariants as slot
use Rattle.qs_algebra_patterns.specs.declared.pattern.TriplePattern.{TriplePattern}
use Rattle.qs_algebra_patterns.specs.declared.pattern.PathPattern.{PathPattern}
use Rattle.qs_terms.specs.declared.term.Term.{Term}
use Rattle.qs_plan.specs.declared.certain.Size.{Size}
use Rattle.qs_plan_meaning.specs.declared.stage.Stage.{Stage}
use Rattle.qs_plan_meaning.specs.inner.Stages.{gives, through}

-- the row binds the variable
abbrev pub Bound : ℕ → Solution → Type 0
Bound v m = IsSome (term_at m v)

-- the row binds the variable as another does
abbrev pub Alike : ℕ → Solution → Solution → Type 0
Alike v m q = term_at q v ≡ term_at m v

-- the variable stands in the triple pattern, or at an end of the path pattern
abbrev pub Holds : ℕ → TriplePattern → Type 0
Holds v p =
    (p.subject ≡ slot.Variable v) ⊎ ((p.predicate ≡ slot.Variable v) ⊎ (p.object ≡ slot.Variable v))

abbrev pub Ends : ℕ → PathPattern → Type 0
Ends v p = (p.subject ≡ slot.Variable v) ⊎ (p.object ≡ slot.Variable v)

-- of the first n columns each that is the variable's has a term in the row
abbrev pub Filled : ℕ → List ℕ → List (Option Term) → ℕ → Type 0
Filled v columns row n = (i : ℕ) → i < n → i < length columns → get_or columns i 0 ≡ v
    → IsSome (slice_index_or row i None)

-- a row that a plan of this size may have at the start of a group, where it is known to bind these
-- variables
pub record Begun (size : Size) (given : List ℕ) (m : Solution) : Type 0 where
  pub wide : size.cells ≤ length m
  pub binds : AllByRecursion (λ v. Bound v m) given

-- of a row that binds the variable the stage makes rows that bind it alike
pub record Keeps (v : ℕ) (s : Stage) : Type 0 where
  pub alike : (width : ℕ) (quads : List Statement) (active : Graph) (m : Solution) → Bound v m
      → AllByRecursion (Alike v m) (gives width quads active s m)

-- of each row the stage makes rows that bind the variable
pub record Gets (size : Size) (v : ℕ) (s : Stage) : Type 0 where
  pub bound : (quads : List Statement) (active : Graph) (m : Solution) → size.cells ≤ length m
      → AllByRecursion (Bound v) (gives size.width quads active s m)

-- the same of stages one after another, for rows that bind what is given
pub record Binds (size : Size) (given : List ℕ) (v : ℕ) (ss : List Stage) : Type 0 where
  pub bound : (quads : List Statement) (active : Graph) (m : Solution) → Begun size given m
      → AllByRecursion (Bound v) (through size.width quads active ss m)

-- from this place on no stage changes what is bound to the variable
pub record Steady (size : Size) (given : List ℕ) (v place : ℕ) (ss : List Stage) : Type 0 where
  pub alike : (k : ℕ) → place ≤ k → (quads : List Statement) (active : Graph) (m : Solution)
      → Begun size given m
      → AllByRecursion
      (λ q. AllByRecursion (Alike v q) (through size.width quads active (drop k ss) q))
      (through size.width quads active (take k ss) m)

-- of each row that binds what is given both make the same
pub record SameFrom (size : Size) (given : List ℕ) (ss ts : List Stage) : Type 0 where
  pub same : (quads : List Statement) (active : Graph) (m : Solution) → Begun size given m
      → SameBag (through size.width quads active ss m) (through size.width quads active ts m)
