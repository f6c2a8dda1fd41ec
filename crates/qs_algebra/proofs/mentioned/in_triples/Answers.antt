use Rattle.qs_algebra.proofs.MentionLaws.{mentions_more}
use Rattle.qs_algebra.proofs.mentioned.in_triples.Goals as goal

pub loop-triple-preserved : goal.loop-triple-preserved
loop-triple-preserved c =
    mentions_more c.args.triples.now c.loop-triple.triple-index c.args.width c.triple-item.result c.loop-triple.flags.items c.flag_triple.new.flags.items c.loop-triple-test.true c.triple-item.is c.loop-triple.invariant c.flag_triple.ensures
