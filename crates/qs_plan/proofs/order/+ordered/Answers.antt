use Rattle.std.proofs.Common.{get_or, refl, ◌∙◌}
use Rattle.qs_plan.proofs.Cutting.{place_put, place_none, places_end}
use Rattle.qs_plan.proofs.order.+ordered.Goals.{ordered_stages-in-Some+in_ok-one+in_ok-push+in_ok-add_stage, ordered_stages-in_default}
use Rattle.qs_plan.proofs.Sames.{branch_more, optional_arm, fed_arm, minus_arm, apart_arm}
use Rattle.qs_plan.proofs.order.+ordered.Goals as goal

pub ordered_branches-loop-branch-preserved : goal.ordered_branches-loop-branch-preserved
ordered_branches-loop-branch-preserved g t c =
    branch_more _ _ c.args.branches.now c.loop-branch.branch-index c.branch-item.result c.in_ok-group.group.stages c.loop-branch-test.true c.branch-item.is c.in_ok-push.ensures.ok c.loop-branch.invariant c.in_ok-group.ensures

pub ordered_stage-returns-in_ok-group-in-Optional : goal.ordered_stage-returns-in_ok-group-in-Optional
ordered_stage-returns-in_ok-group-in-Optional g t c =
    optional_arm c.args.stage.now c.in-Optional.register c.in-Optional.group c.in_ok-group-in-Optional.group c.in-Optional.conditions c.in_ok-conditions-in-Optional.conditions c.in-Optional.is c.in_ok-conditions-in-Optional.ensures c.in_ok-group-in-Optional.ensures

pub ordered_stage-returns-in_ok-group-in-Fed : goal.ordered_stage-returns-in_ok-group-in-Fed
ordered_stage-returns-in_ok-group-in-Fed g t c =
    fed_arm c.args.stage.now c.in-Fed.group c.in_ok-group-in-Fed.group c.in-Fed.conditions c.in_ok-conditions-in-Fed.conditions c.in-Fed.is c.in_ok-conditions-in-Fed.ensures c.in_ok-group-in-Fed.ensures

pub ordered_stage-returns-in_ok-group-in-Minus : goal.ordered_stage-returns-in_ok-group-in-Minus
ordered_stage-returns-in_ok-group-in-Minus g t c =
    minus_arm c.args.stage.now c.in-Minus.register c.in-Minus.group c.in_ok-group-in-Minus.group c.in-Minus.is c.in_ok-group-in-Minus.ensures

pub ordered_stage-returns-in_ok-group-in-Apart : goal.ordered_stage-returns-in_ok-group-in-Apart
ordered_stage-returns-in_ok-group-in-Apart g t c =
    apart_arm c.args.stage.now c.in-Apart.register c.in-Apart.group c.in_ok-group-in-Apart.group c.in-Apart.is c.in_ok-group-in-Apart.ensures

pub ordered_stages-loop-place-preserved : goal.ordered_stages-loop-place-preserved
ordered_stages-loop-place-preserved g t c =
    let items = c.as_slice-place-items.result.now in
    let i = c.loop-place.place-index in
    elim c.match-get.branch [
      | ordered_stages-in-Some+in_ok-one+in_ok-push+in_ok-add_stage w ↦
          place_put c.loop-place.done c.match-get.done c.args.stages.now items i (get_or items i 0) c.loop-place-test.true refl c.loop-place.invariant w.in-Some.stage.now w.in_ok-one.one w.in-Some.ensures.lookup.3.0 w.in-Some.ensures.lookup.1 w.in_ok-one.ensures (w.done-is ∙ w.in_ok-push.ensures.ok)
      | ordered_stages-in_default w ↦ place_none c.loop-place.done c.match-get.done c.args.stages.now items i (get_or items i 0) c.loop-place-test.true refl c.loop-place.invariant w.in_default.ensures.lookup.3 w.done-is
    ]

pub ordered_stages-returns : goal.ordered_stages-returns
ordered_stages-returns g t c =
    places_end c.loop-place.done c.args.stages.now c.in_ok-places.places.items c.as_slice-place-items.result.now c.loop-place.place-index c.loop-place-test.false c.as_slice-place-items.ensures.value c.loop-place.invariant c.in_ok-places.ensures
