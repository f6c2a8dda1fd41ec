use Rattle.std.proofs.Common.{[], ◌∷◌, take}
use Rattle.qs_plan_meaning.specs.declared.stage.Stage.TheVariants.{Union}
use Rattle.qs_plan.specs.inner.Sames.{SameStages}
use Rattle.qs_plan.specs.inner.Slots.{stages_at}
use Rattle.qs_plan.proofs.order.+ordered.Given as goal

abbrev pub invariant-ordered_stages-loop-place : goal.invariant-ordered_stages-loop-place
invariant-ordered_stages-loop-place g l = SameStages l.done (stages_at l.stages (take l.place-index l.place-items))

abbrev pub invariant-ordered_branches-loop-branch : goal.invariant-ordered_branches-loop-branch
invariant-ordered_branches-loop-branch g l = SameStages (Union l.done ∷ []) (Union (take l.branch-index l.branches) ∷ [])
