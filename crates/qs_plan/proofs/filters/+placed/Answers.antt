use Rattle.std.proofs.Common.{◌++◌, map, arith}
use Rattle.qs_plan_meaning.specs.declared.stage.Stage.TheVariants as stage
use Rattle.qs_plan.proofs.Entering.{placed_more, branch_placed, optional_placed, fed_placed, minus_placed, apart_placed}
use Rattle.qs_plan.proofs.Placing.{all_waited, none_placed}
use Rattle.qs_plan.proofs.filters.+placed.Goals as goal

pub placed_branches-loop-branch-preserved : goal.placed_branches-loop-branch-preserved
placed_branches-loop-branch-preserved t c =
    branch_placed c.args.size _ _ c.args.branches.now c.loop-branch.branch-index c.branch-item.result c.in_ok-group.group c.loop-branch-test.true c.branch-item.is c.in_ok-push.ensures.ok c.loop-branch.invariant c.in_ok-group.ensures

pub placed_stage-returns-in_ok-group-in-Optional : goal.placed_stage-returns-in_ok-group-in-Optional
placed_stage-returns-in_ok-group-in-Optional t c =
    optional_placed c.args.size c.in-Optional.register c.in_ok-group-in-Optional.group c.in-Optional.group c.in_ok-group-in-Optional.ensures c.args.stage.now c.in-Optional.conditions c.in_ok-conditions-in-Optional.conditions c.in-Optional.is c.in_ok-conditions-in-Optional.ensures

pub placed_stage-returns-in_ok-group-in-Fed : goal.placed_stage-returns-in_ok-group-in-Fed
placed_stage-returns-in_ok-group-in-Fed t c =
    fed_placed c.args.size c.in_ok-group-in-Fed.group c.in-Fed.group c.in_ok-group-in-Fed.ensures c.args.stage.now c.in-Fed.conditions c.in_ok-conditions-in-Fed.conditions c.in-Fed.is c.in_ok-conditions-in-Fed.ensures

pub placed_stage-returns-in_ok-group-in-Minus : goal.placed_stage-returns-in_ok-group-in-Minus
placed_stage-returns-in_ok-group-in-Minus t c =
    minus_placed c.args.size c.in-Minus.register c.in_ok-group-in-Minus.group c.in-Minus.group c.in_ok-group-in-Minus.ensures c.args.stage.now c.in-Minus.is

pub placed_stage-returns-in_ok-group-in-Apart : goal.placed_stage-returns-in_ok-group-in-Apart
placed_stage-returns-in_ok-group-in-Apart t c =
    apart_placed c.args.size c.in-Apart.register c.in_ok-group-in-Apart.group c.in-Apart.group c.in_ok-group-in-Apart.ensures c.args.stage.now c.in-Apart.is

pub placed_stages-loop-stage-init : goal.placed_stages-loop-stage-init
placed_stages-loop-stage-init t c = none_placed c.args.size c.new-done.result c.args.stages.now c.new-waiting.result c.new-done.ensures c.new-waiting.ensures

pub placed_stages-loop-stage-preserved : goal.placed_stages-loop-stage-preserved
placed_stages-loop-stage-preserved t c =
    placed_more c.args.size (c.loop-stage.done ++ map stage.Filter c.loop-stage.waiting) _ c.args.stages.now c.loop-stage.stage-index c.stage-item.result c.in_ok-one.one c.loop-stage-test.true c.stage-item.is c.loop-stage.invariant c.in_ok-one.ensures c.in_ok-put_placed.ensures

pub placed_stages-returns : goal.placed_stages-returns
placed_stages-returns t c =
    all_waited c.args.size c.args.stages.now c.loop-stage.done c.put_waiting.new.done c.loop-stage.waiting c.loop-stage.stage-index (omega (arith, c.loop-stage-test.false)) c.loop-stage.invariant c.in_ok-put_waiting.ensures.same
