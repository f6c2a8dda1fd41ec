use Rattle.qs_algebra.proofs.MentionLaws.{ends_more}
use Rattle.qs_algebra.proofs.mentioned.at_ends.Goals as goal

pub loop-path-preserved : goal.loop-path-preserved
loop-path-preserved c =
    ends_more c.args.paths.now c.loop-path.path-index c.args.width c.path-item.result c.loop-path.flags.items c.flag_ends.new.flags.items c.loop-path-test.true c.path-item.is c.loop-path.invariant c.flag_ends.ensures
