-- Stages of a run that are taken, one after another, and put after others.
use Rattle.std.specs.Prelude.{◌≡◌, ℕ, ◌<◌, ◌+◌, take, drop, Bool, true, false, List, [], ◌∷◌, ◌++◌}
use Rattle.std.specs.Prelude.{length, slice_get, slice_set, Option, Some, None}
use Rattle.std.specs.List.{AllByRecursion, remove}
use Rattle.std.specs.Option.{option_to_list}
use Rattle.qs_plan_meaning.specs.declared.stage.Stage.{Stage}
use Rattle.qs_plan.specs.inner.Sames.{SameStages, IsScan}

-- the stages at these places
abbrev pub stages_at : List Stage → List ℕ → List Stage
stages_at ss [] = []
stages_at ss (p ∷ ps) = option_to_list (slice_get ss p) ++ stages_at ss ps

-- the stages that are left, by their flags
abbrev pub stages_left : List Stage → List Bool → List Stage
stages_left [] left = []
stages_left (s ∷ ss) [] = []
stages_left (s ∷ ss) (false ∷ left) = stages_left ss left
stages_left (s ∷ ss) (true ∷ left) = s ∷ stages_left ss left

-- what stands at a place, if it is left
abbrev pub if_left : Bool → Option Stage → Option Stage
if_left true o = o
if_left false o = None

-- a flag that was set is cleared
abbrev pub Clears : Bool → ℕ → List Bool → List Bool → Type 0
Clears false at old new = new ≡ old
Clears true at old new = (slice_get old at ≡ Some true) × (new ≡ slice_set old at false)

-- a stage is taken from others
pub record IsTaken (s : Stage) (old new : List Stage) : Type 0 where
  pub at : ℕ
  pub within : at < length old
  pub is : slice_get old at ≡ Some s
  pub rest : new ≡ remove old at

-- it is, if there is one
abbrev pub Takes : Option Stage → List Stage → List Stage → Type 0
Takes None old new = new ≡ old
Takes (Some s) old new = IsTaken s old new

-- of scans that are left some are put after those that are done, and others are left
pub record Puts (r : Option ℕ) (done left done' left' : List Stage) : Type 0 where
  pub scans : AllByRecursion (IsScan r) left'
  pub same : SameStages (done' ++ left') (done ++ left)

-- the stages of a run, so many from a place on
abbrev pub part : List Stage → ℕ → ℕ → List Stage
part ss from count = take count (drop from ss)

-- the first stages are put, but for a run of scans
pub record Cut (ss : List Stage) (ps : List ℕ) (r : Option ℕ) (from count : ℕ) : Type 0 where
  pub scans : AllByRecursion (IsScan r) (part ss from count)
  pub same : SameStages (stages_at ss ps ++ part ss from count) (take (from + count) ss)
