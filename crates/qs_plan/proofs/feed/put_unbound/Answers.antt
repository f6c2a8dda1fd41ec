use Rattle.std.proofs.Common.{refl}
use Rattle.qs_plan.proofs.Needs.{covers_more, met_step}
use Rattle.qs_plan.proofs.feed.put_unbound.Goals as goal

pub loop-at-preserved : goal.loop-at-preserved
loop-at-preserved c = (
  covers_more c.args.needs.now.items c.loop-at.needs.items c.put_unless_bound.new.needs.items c.loop-at.invariant.0 c.in_ok-put_unless_bound.ensures.covers,
  met_step c.args.size c.args.stages.now c.args.variables.now c.loop-at.at _ _ c.loop-at.needs.items c.put_unless_bound.new.needs.items c.loop-at-test.true refl c.in_ok-put_unless_bound.ensures.covers c.in_ok-put_unless_bound.ensures.met c.loop-at.invariant.1,
)
