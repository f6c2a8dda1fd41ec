use Rattle.std.proofs.Common.{[], ◌∷◌, map, take}
use Rattle.qs_plan_meaning.specs.declared.stage.Stage.TheVariants.{Filter, Union}
use Rattle.qs_plan.specs.inner.Certain.{SameFrom}
use Rattle.qs_plan.proofs.Placing.{Halfway}
use Rattle.qs_plan.proofs.filters.+filtered.Given as goal

abbrev pub invariant-filtered_branches-loop-branch : goal.invariant-filtered_branches-loop-branch
invariant-filtered_branches-loop-branch l = SameFrom l.size l.given (Union l.done ∷ []) (Union (take l.branch-index l.branches) ∷ map Filter l.conditions)

abbrev pub invariant-filtered-loop-at : goal.invariant-filtered-loop-at
invariant-filtered-loop-at l = Halfway l.size l.given l.stages l.all l.at l.done
