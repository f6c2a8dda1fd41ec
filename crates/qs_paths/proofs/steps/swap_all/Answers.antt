use Rattle.qs_base.proofs.WrittenLists.{write_more}
use Rattle.qs_paths.specs.inner.Nodes.{swapped_nodes}
use Rattle.qs_paths.proofs.Names.{zero_pair}
use Rattle.qs_paths.proofs.steps.swap_all.Goals as goal

pub loop-pair-preserved : goal.loop-pair-preserved
loop-pair-preserved c =
    write_more swapped_nodes c.args.pairs.now c.loop-pair.pairs c.loop-pair.pair-index zero_pair _ c.loop-pair-test.true c.loop-pair.invariant c.swapped.ensures
