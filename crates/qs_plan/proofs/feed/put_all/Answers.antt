use Rattle.std.proofs.Common.{refl, arith}
use Rattle.qs_plan.proofs.Needs.{covers_more, covers_one, missing_more, missing_ended}
use Rattle.qs_plan.proofs.feed.put_all.Goals as goal

pub loop-at-preserved : goal.loop-at-preserved
loop-at-preserved c = (
  covers_more c.args.needs.now.items c.loop-at.needs.items c.push.new.self.items c.loop-at.invariant.0 (covers_one c.loop-at.needs.items _ c.push.new.self.items c.in_ok-push.ensures.items),
  missing_more c.args.variables.now c.loop-at.at _ _ c.loop-at.needs.items c.push.new.self.items c.loop-at-test.true refl c.in_ok-push.ensures.items c.loop-at.invariant.1,
)

pub returns-clause-more : goal.returns-clause-more
returns-clause-more c = missing_ended c.args.variables.now c.loop-at.at c.loop-at.needs.items (omega (arith, c.loop-at-test.false)) c.loop-at.invariant.1
