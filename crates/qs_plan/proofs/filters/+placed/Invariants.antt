use Rattle.std.proofs.Common.{[], ◌∷◌, ◌++◌, map, take}
use Rattle.qs_plan_meaning.specs.declared.stage.Stage.TheVariants.{Filter, Union}
use Rattle.qs_plan.specs.inner.Certain.{SameFrom}
use Rattle.qs_plan.proofs.filters.+placed.Given as goal

abbrev pub invariant-placed_stages-loop-stage : goal.invariant-placed_stages-loop-stage
invariant-placed_stages-loop-stage l = SameFrom l.size [] (l.done ++ map Filter l.waiting) (take l.stage-index l.stages)

abbrev pub invariant-placed_branches-loop-branch : goal.invariant-placed_branches-loop-branch
invariant-placed_branches-loop-branch l = SameFrom l.size [] (Union l.done ∷ []) (Union (take l.branch-index l.branches) ∷ [])
