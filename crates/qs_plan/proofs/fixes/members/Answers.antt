use Rattle.qs_plan.proofs.Fixed.{members_more}
use Rattle.qs_plan.proofs.fixes.members.Goals as goal

pub loop-part-preserved : goal.loop-part-preserved
loop-part-preserved c = (
  members_more c.args.parts.now c.loop-part.part-index c.part-item.result c.loop-part.terms c.add_iri.new.terms c.loop-part-test.true c.part-item.is (c.in_ok-add_iri.ensures.list c.if-not-branch.false) c.loop-part.invariant.0,
  c.in_ok-add_iri.ensures.set c.if-not-branch.false,
)
