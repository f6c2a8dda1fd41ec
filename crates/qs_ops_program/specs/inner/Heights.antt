-- How deep the groups are nested that walks of their own evaluate, those of OPTIONAL, MINUS and of
-- Apart.
use Rattle.std.specs.Prelude.{ℕ, ◌+◌, ◌≤◌, max, List, [], ◌∷◌, map}
use Rattle.qs_plan_meaning.specs.declared.stage.Stage.{Stage, fold-Stage}
use Rattle.qs_plan_meaning.specs.declared.stage.Stage.TheOpen.{Stage-F, Group-F, Triple, Path}
use Rattle.qs_plan_meaning.specs.declared.stage.Stage.TheOpen.{Exists, Names, Name, Filter, Bind}
use Rattle.qs_plan_meaning.specs.declared.stage.Stage.TheOpen.{Values, Union, Optional, Fed, Minus}
use Rattle.qs_plan_meaning.specs.declared.stage.Stage.TheOpen.{Apart}
use Rattle.qs_ops_program.specs.inner.Flow.{Instruction}

-- the greatest of them
abbrev pub most : List ℕ → ℕ
most [] = 0
most (x ∷ xs) = max x (most xs)

abbrev pub height_level : Stage-F ℕ ℕ → ℕ
height_level (Triple place p) = 0
height_level (Path place p) = 0
height_level (Exists name) = 0
height_level (Names r) = 0
height_level (Name v r) = 0
height_level (Filter e) = 0
height_level (Bind v e) = 0
height_level (Values table) = 0
height_level (Union branches) = most branches
height_level (Optional r group conditions) = 1 + group
height_level (Fed group conditions) = 1 + group
height_level (Minus r group) = 1 + group
height_level (Apart r group) = 1 + group

abbrev pub group_height_level : Group-F ℕ ℕ → ℕ
group_height_level group = most group.stages

abbrev pub stage_height : Stage → ℕ
stage_height = fold-Stage ℕ ℕ height_level group_height_level

abbrev pub stages_height : List Stage → ℕ
stages_height stages = most (map stage_height stages)

-- its stage is nested no deeper than this
abbrev pub IsLow : ℕ → Instruction → Type 0
IsLow bound i = stage_height i.stage ≤ bound
