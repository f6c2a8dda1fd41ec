use Rattle.std.proofs.Common.{◌+◌, map, refl, arith}
use Rattle.qs_plan_meaning.specs.declared.stage.Stage.TheVariants as stage
use Rattle.qs_plan.proofs.Entering.{branch_filtered, branches_begun}
use Rattle.qs_plan.proofs.Placing.{apart_put, pass_begun, pass_ended, pass_more, union_put}
use Rattle.qs_plan.proofs.filters.+filtered.Goals as goal

pub filtered_branches-loop-branch-init : goal.filtered_branches-loop-branch-init
filtered_branches-loop-branch-init t c = branches_begun c.args.size c.args.given.now (map stage.Filter c.args.conditions.now) c.new-done.result c.args.branches.now c.new-done.ensures

pub filtered_branches-loop-branch-preserved : goal.filtered_branches-loop-branch-preserved
filtered_branches-loop-branch-preserved t c =
    branch_filtered c.args.size c.args.given.now (map stage.Filter c.args.conditions.now) c.loop-branch.done _ c.args.branches.now c.loop-branch.branch-index c.branch-item.result c.in_ok-group.group c.loop-branch-test.true c.branch-item.is c.in_ok-push.ensures.ok c.loop-branch.invariant c.in_ok-group.ensures

pub put_stage-returns-in_ok-push-in-Union : goal.put_stage-returns-in_ok-push-in-Union
put_stage-returns-in_ok-push-in-Union t c =
    union_put c.args.size c.args.given.now c.in_ok-known-in-Union.known.items c.as_slice-in-Union-2.result.now c.args.done.now c.as_slice.result.now c.push-in-Union.new.self c.args.one.now c.in_ok-branches-in-Union.branches c.in-Union.branches c.as_slice-in-Union.result.now c.args.conditions.now
    c.as_slice-in-Union-2.ensures.value c.in_ok-known-in-Union.ensures c.as_slice.ensures c.in-Union.is c.as_slice-in-Union.ensures c.in_ok-push-in-Union.ensures.ok c.in_ok-branches-in-Union.ensures

pub put_stage-returns-in_ok-put_filters-in-Apart : goal.put_stage-returns-in_ok-put_filters-in-Apart
put_stage-returns-in_ok-put_filters-in-Apart t c =
    apart_put c.args.size c.args.given.now c.args.done.now c.push-in-Apart.new.self c.put_filters.new.done c.args.one.now c.in-Apart.register c.in-Apart.group c.in_ok-group-in-Apart.group c.as_slice-in-Apart.result.now c.args.conditions.now c.in_ok-two-in-Apart.two.inside c.in_ok-two-in-Apart.two.after c.as_slice-in-Apart-2.result.now c.as_slice-in-Apart-3.result.now
    c.in-Apart.is c.as_slice-in-Apart.ensures c.in_ok-two-in-Apart.ensures.inside c.in_ok-two-in-Apart.ensures.same c.as_slice-in-Apart-2.ensures c.as_slice-in-Apart-3.ensures c.in_ok-group-in-Apart.ensures c.in_ok-push-in-Apart.ensures.ok c.in_ok-put_filters-in-Apart.ensures

pub filtered-loop-at-init : goal.filtered-loop-at-init
filtered-loop-at-init t c =
    pass_begun c.args.size c.args.given.now c.args.stages.now c.new-done.result c.put_filters.new.done c.as_slice-all.result.now c.in_ok-found.found c.in_ok-here.here c.as_slice.result.now
    c.as_slice-all.ensures c.in_ok-found.ensures.firm c.new-done.ensures c.in_ok-here.ensures c.as_slice.ensures c.in_ok-put_filters.ensures

pub filtered-loop-at-preserved : goal.filtered-loop-at-preserved
filtered-loop-at-preserved t c =
    pass_more c.args.size c.args.given.now c.args.stages.now c.loop-at.done c.put_stage.new.done c.as_slice-all.result.now c.in_ok-found.found c.loop-at.at (c.loop-at.at + 1) c.index-stages-at.result c.in_ok-here-2.here c.as_slice-in-loop-at.result.now
    refl c.loop-at-test.true c.index-stages-at.is c.as_slice-all.ensures c.in_ok-found.ensures.firm c.in_ok-here-2.ensures c.as_slice-in-loop-at.ensures c.loop-at.invariant c.in_ok-put_stage.ensures

pub filtered-returns : goal.filtered-returns
filtered-returns t c =
    pass_ended c.args.size c.args.given.now c.args.stages.now c.loop-at.done c.as_slice-all.result.now c.in_ok-found.found c.loop-at.at c.args.conditions.now (omega (arith, c.loop-at-test.false)) c.as_slice-all.ensures c.in_ok-found.ensures.firm c.in_ok-found.ensures.all c.loop-at.invariant
