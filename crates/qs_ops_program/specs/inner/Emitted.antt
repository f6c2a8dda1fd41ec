-- Instructions that were put after others.
use Rattle.std.specs.Prelude.{◌≡◌, ℕ, ◌≤◌, List, ◌++◌, length}
use Rattle.std.specs.List.{AllByRecursion, flat_map}
use Rattle.qs_terms.specs.Statement.{Statement}
use Rattle.qs_algebra_solutions.specs.Solution.{Solution}
use Rattle.qs_algebra_patterns.specs.Basic.{Graph}
use Rattle.qs_plan_meaning.specs.declared.stage.Group.{Group}
use Rattle.qs_plan_meaning.specs.declared.stage.Stage.{Stage}
use Rattle.qs_plan_meaning.specs.inner.Stages.{gives, through}
use Rattle.qs_ops_program.specs.inner.Flow.{Instruction, IsForward, flow}
use Rattle.qs_ops_program.specs.inner.Heights.{IsLow, stages_height}

-- a row at `at` goes through the stages, and on at `next`
pub record Emitted (old new : List Instruction) (at next : ℕ) (stages : List Stage) : Type 0 where
  pub rest : List Instruction
  pub is : new ≡ old ++ rest
  pub forward : IsForward new
  pub within : at ≤ length new
  pub low : (bound : ℕ) → stages_height stages ≤ bound → AllByRecursion (IsLow bound) rest
  pub makes : (width : ℕ) (quads : List Statement) (active : Graph) (m : Solution)
      → flow (gives width quads active) new at m ≡ flat_map
      (flow (gives width quads active) new next) (through width quads active stages m)

-- a row at each of the starts goes through the branch, and on at `next`
pub record Forked (old new : List Instruction) (starts : List ℕ) (next : ℕ)
    (branches : List Group) : Type 0 where
  pub rest : List Instruction
  pub is : new ≡ old ++ rest
  pub forward : IsForward new
  pub within : AllByRecursion (λ start. start ≤ length new) starts
  pub low : (bound : ℕ) → AllByRecursion (λ (g : Group). stages_height g.stages ≤ bound) branches
      → AllByRecursion (IsLow bound) rest
  pub makes : (width : ℕ) (quads : List Statement) (active : Graph) (m : Solution)
      → flat_map (λ start. flow (gives width quads active) new start m) starts ≡ flat_map
      (λ (g : Group). flat_map (flow (gives width quads active) new next)
      (through width quads active g.stages m)) branches

-- a row at `start` goes through the stages, and is finished
abbrev pub Carries : List Instruction → ℕ → List Stage → Type 0
Carries code start stages = (width : ℕ) (quads : List Statement) (active : Graph) (m : Solution)
    → flow (gives width quads active) code start m ≡ through width quads active stages m
