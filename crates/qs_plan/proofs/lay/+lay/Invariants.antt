use Rattle.std.proofs.Common.{◌∷◌, [], take, drop}
use Rattle.qs_plan_meaning.specs.declared.stage.Stage.TheVariants.{Union}
use Rattle.qs_plan.specs.inner.Feeds.{Feeds, LaysRest, after_steps}
use Rattle.qs_plan.specs.inner.Lays.{Lays, all_stepped, joined_with_all}
use Rattle.qs_plan.proofs.lay.+lay.Given as goal

abbrev pub invariant-lay_steps-loop-at : goal.invariant-lay_steps-loop-at
invariant-lay_steps-loop-at l = Lays l.first l.width l.look l.from l.next l.stages (all_stepped l.width (drop l.start (take l.at l.steps)))

abbrev pub invariant-lay_union-loop-part : goal.invariant-lay_union-loop-part
invariant-lay_union-loop-part l = Lays l.first l.width l.look l.from l.next (Union l.branches ∷ []) (joined_with_all l.width (take l.part-index l.parts))

abbrev pub invariant-lay_rest-loop-at : goal.invariant-lay_rest-loop-at
invariant-lay_rest-loop-at l = LaysRest l.width l.look l.fn.from l.next l.fn.front l.stages (drop l.start (take l.at l.steps))

abbrev pub invariant-feed_steps-loop-one : goal.invariant-feed_steps-loop-one
invariant-feed_steps-loop-one l = Feeds l.needs.items l.width l.look l.from l.next l.stages (after_steps l.width (take l.one-index l.steps))
