use Rattle.std.proofs.Common.{◌≡◌, take}
use Rattle.qs_plan.proofs.copies.+stages.Given as goal

abbrev pub invariant-copied_stages-loop-stage : goal.invariant-copied_stages-loop-stage
invariant-copied_stages-loop-stage l = l.copies ≡ take l.stage-index l.stages

abbrev pub invariant-copied_branches-loop-branch : goal.invariant-copied_branches-loop-branch
invariant-copied_branches-loop-branch l = l.copies ≡ take l.branch-index l.branches
