use Rattle.std.proofs.Common.{arith, None}
use Rattle.qs_plan.proofs.Cutting.{cut_none, cut_ends}
use Rattle.qs_plan.proofs.order.places_of.Goals as goal

pub loop-at-init : goal.loop-at-init
loop-at-init g c = record { within = omega arith; cut = cut_none c.args.stages.now _ None c.new-places.ensures.items }

pub loop-at-preserved : goal.loop-at-preserved
loop-at-preserved g c = record { within = omega (arith, c.in_ok-run.ensures.0, c.loop-at.invariant.within); cut = c.in_ok-run.ensures.1 }

pub next_run-requires : goal.next_run-requires
next_run-requires g c = record { within = omega (arith, c.loop-at.invariant.within, c.loop-at-test.true); cut = c.loop-at.invariant.cut }

pub put_run-requires : goal.put_run-requires
put_run-requires g c = record { within = omega (arith, c.loop-at.invariant.within); scans = c.loop-at.invariant.cut.scans }

pub returns : goal.returns
returns g c =
    cut_ends c.args.stages.now c.loop-at.places.items c.put_run.new.places.items c.loop-at.run.register c.loop-at.run.from c.loop-at.run.count (omega (arith, c.loop-at.invariant.within)) c.loop-at.invariant.cut c.in_ok-put_run.ensures
