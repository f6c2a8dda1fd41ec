use Rattle.qs_plan.proofs.Apart.{by_itself_arm, parted_more}
use Rattle.qs_plan.proofs.Entering.{optional_placed, minus_placed, apart_placed}
use Rattle.qs_plan.proofs.parts.+parted.Goals as goal

pub parted_stage-returns-then-is_kept : goal.parted_stage-returns-then-is_kept
parted_stage-returns-then-is_kept g t c =
    by_itself_arm c.args.size c.args.stage.now c.in_ok-one.one c.requires (c.is_part.ensures c.if-is_part.true) c.in_ok-one.ensures

pub parted_stage-returns-in_ok-group-in-Optional : goal.parted_stage-returns-in_ok-group-in-Optional
parted_stage-returns-in_ok-group-in-Optional g t c =
    optional_placed c.args.size c.in-Optional.register c.in_ok-group-in-Optional.group c.in-Optional.group c.in_ok-group-in-Optional.ensures c.args.stage.now c.in-Optional.conditions c.in_ok-conditions-in-Optional.conditions c.in-Optional.is c.in_ok-conditions-in-Optional.ensures

pub parted_stage-returns-in_ok-group-in-Minus : goal.parted_stage-returns-in_ok-group-in-Minus
parted_stage-returns-in_ok-group-in-Minus g t c =
    minus_placed c.args.size c.in-Minus.register c.in_ok-group-in-Minus.group c.in-Minus.group c.in_ok-group-in-Minus.ensures c.args.stage.now c.in-Minus.is

pub parted_stage-returns-in_ok-group-in-Apart : goal.parted_stage-returns-in_ok-group-in-Apart
parted_stage-returns-in_ok-group-in-Apart g t c =
    apart_placed c.args.size c.in-Apart.register c.in_ok-group-in-Apart.group c.in-Apart.group c.in_ok-group-in-Apart.ensures c.args.stage.now c.in-Apart.is

pub parted_stages-loop-at-preserved : goal.parted_stages-loop-at-preserved
parted_stages-loop-at-preserved g t c =
    parted_more c.args.size c.loop-at.done _ c.args.stages.now c.loop-at.at-counter c.index-stages-at.result c.in_ok-one.one c.loop-at-test.true c.index-stages-at.is c.loop-at.invariant c.in_ok-one.ensures c.in_ok-push.ensures.ok
