use Rattle.std.proofs.Common.{◌+◌, subst, arith}
use Rattle.qs_algebra_patterns.specs.declared.pattern.PathPattern.{PathPattern}
use Rattle.qs_plan.specs.inner.Joins.{Joined}
use Rattle.qs_plan.proofs.RunStages.{paths_more}
use Rattle.qs_plan.proofs.joins.join_paths.Goals as goal

pub loop-path-preserved : goal.loop-path-preserved
loop-path-preserved c =
    let j : Joined c.args.look.now c.loop-path.next c.in_ok-laid.laid.next c.in_ok-laid.laid.stages c.in_ok-pattern.pattern = c.in_ok-laid.ensures in
    record {
      up = omega (arith, c.loop-path.invariant.up, j.up);
      joined =
          paths_more c.args.width c.args.hidden c.args.start c.args.look.now (c.args.start + c.args.hidden) c.loop-path.next c.in_ok-laid.laid.next c.loop-path.stages c.in_ok-laid.laid.stages _ c.args.paths.now c.loop-path.path-index c.path-item.result
          c.loop-path-test.true c.path-item.is c.in_ok-append.ensures c.loop-path.invariant.joined
          (subst (λ (p : PathPattern). Joined c.args.look.now c.loop-path.next c.in_ok-laid.laid.next c.in_ok-laid.laid.stages p) c.in_ok-pattern.ensures c.in_ok-laid.ensures);
    }
