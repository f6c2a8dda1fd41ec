-- What stages make of the named variables of a row, as a bag, and what they do to its other cells.
use Rattle.std.specs.Prelude.{◌≡◌, ℕ, ◌<◌, ◌≤◌, Bool, true, List, [], ◌∷◌, length, map, take}
use Rattle.std.specs.Prelude.{Option, Some, None}
use Rattle.std.specs.List.{AllByRecursion, flat_map, fold}
use Rattle.qs_terms.specs.Bag.{Distinct, SameBag}
use Rattle.qs_terms.specs.Dataset.{same_triple}
use Rattle.qs_terms.specs.Statement.{Statement, same_statement}
use Rattle.qs_algebra_solutions.specs.Solution.{Solution, term_at, unbound}
use Rattle.qs_algebra_solutions.specs.Operators.{merges}
use Rattle.qs_expr_meaning.specs.declared.expr.Expr.{Expr}
use Rattle.qs_algebra_patterns.specs.Basic.{Graph}
use Rattle.qs_algebra_patterns.specs.Eval.{eval}
use Rattle.qs_algebra_patterns.specs.inner.Eval.{kept, step}
use Rattle.qs_algebra_patterns.specs.declared.pattern.PatternNode.{PatternNode}
use Rattle.qs_algebra_patterns.specs.declared.pattern.Step.{Step}
use Rattle.qs_algebra_patterns.specs.declared.pattern.Step.TheVariants.{Join}
use Rattle.qs_plan_meaning.specs.declared.stage.Look.{Look}
use Rattle.qs_plan_meaning.specs.declared.stage.Look.TheVariants as look
use Rattle.qs_plan_meaning.specs.declared.stage.Stage.{Stage}
use Rattle.qs_plan_meaning.specs.inner.Stages.{looked, through}
use Rattle.qs_plan.specs.inner.Numbers.{past}

-- a row whose hidden cells from `from` on are unbound, and reach to `next` at least; if it is the
-- first, no named variable is bound
pub record Ready (width : ℕ) (first : Bool) (from next : ℕ) (m : Solution) : Type 0 where
  pub wide : next ≤ length m
  pub short : length m < past
  pub free : (v : ℕ) → from ≤ v → term_at m v ≡ None
  pub start : first ≡ true → take width m ≡ unbound width

-- what comes of a row: no cell from `next` on is bound, and the hidden ones below `from` are as
-- they were
pub record After (width from next : ℕ) (m r : Solution) : Type 0 where
  pub wide : length r ≡ length m
  pub free : (v : ℕ) → next ≤ v → term_at r v ≡ None
  pub kept : (v : ℕ) → width ≤ v → v < from → term_at r v ≡ term_at m v

-- the register in which is looked is one of the hidden cells below `from`
abbrev pub Within : ℕ → ℕ → Look → Type 0
Within width from look.Active = Unit {0}
Within width from (look.Named name) = Unit {0}
Within width from (look.Register r) = (width ≤ r) × (r < from)

-- what is made of a solution of the named variables in a graph
abbrev pub Makes : Type 0
Makes = List Statement → Graph → Solution → List Solution

-- the stages make this of the named variables, where each quad and each triple stands once
pub record Lays (first : Bool) (width : ℕ) (place : Look) (from next : ℕ) (stages : List Stage)
    (makes : Makes) : Type 0 where
  pub named : width ≤ from
  pub up : from ≤ next
  pub bag : (quads : List Statement) (active : Graph) → Distinct same_statement quads
      → Distinct same_triple active → (m : Solution) → Ready width first from next m
      → SameBag (map (take width) (through width quads active stages m))
      (makes quads (looked quads active place m) (take width m))
  pub after : (quads : List Statement) (active : Graph) (m : Solution)
      → Ready width first from next m → AllByRecursion (After width from next m)
      (through width quads active stages m)

-- ---- what patterns make

-- the merges with the solutions of a pattern
abbrev pub joined_with : ℕ → PatternNode → Makes
joined_with width pattern quads graph a = merges (eval width quads pattern graph) a

-- the merges with those of all parts
abbrev pub joined_with_all : ℕ → List PatternNode → Makes
joined_with_all width parts quads graph a =
    merges (flat_map (λ part. eval width quads part graph) parts) a

-- what a step makes
abbrev pub stepped : ℕ → Step → Makes
stepped width one quads graph a = step width quads one graph (a ∷ [])

-- what steps make, one after another
abbrev pub all_stepped : ℕ → List Step → Makes
all_stepped width steps quads graph a =
    fold (λ left one. step width quads one graph left) (a ∷ []) steps

-- what is left of it where the conditions hold
abbrev pub all_kept : List Expr → Makes → Makes
all_kept conditions makes quads graph a = kept conditions (makes quads graph a)

-- ---- steps

-- what a step makes of solutions it makes of each of them
pub record IsLinear (width : ℕ) (s : Step) : Type 0 where
  pub each : (quads : List Statement) (graph : Graph) (xs : List Solution)
      → step width quads s graph xs ≡ flat_map (λ a. step width quads s graph (a ∷ [])) xs

-- a step that is laid
pub record LaysStep (first : Bool) (width : ℕ) (place : Look) (from next : ℕ) (stages : List Stage)
    (s : Step) : Type 0 where
  pub lays : Lays first width place from next stages (stepped width s)
  pub linear : IsLinear width s

-- it joins a pattern
abbrev pub IsJoin : Step → Type 0
IsJoin s = (part : PatternNode) × (s ≡ Join part)
