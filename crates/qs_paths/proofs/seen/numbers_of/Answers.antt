use Rattle.qs_store.specs.declared.active.Active.TheVariants.{Empty}
use Rattle.qs_paths.proofs.Scanned.{outside_more}
use Rattle.qs_paths.proofs.seen.numbers_of.Goals as goal

pub loop-member-preserved : goal.loop-member-preserved
loop-member-preserved g c =
    outside_more (g.V.View.content c.args.edges.now.view.now) (g.V.View.default_seen c.args.edges.now.view.now) Empty c.requires.lawful c.requires.knows c.args.inverse c.args.members.now c.loop-member.member-index c.member-item.result c.loop-member.numbers.items c.put_number.new.numbers.items c.loop-member-test.true c.member-item.is c.loop-member.invariant c.in_ok-put_number.ensures
