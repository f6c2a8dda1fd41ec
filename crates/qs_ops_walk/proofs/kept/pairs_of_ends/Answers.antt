use Rattle.qs_ops_walk.proofs.Still.{end_pairs_made}
use Rattle.qs_ops_walk.proofs.kept.pairs_of_ends.Goals as goal

pub returns-clause-last : goal.returns-clause-last
returns-clause-last g c =
    end_pairs_made c.args.reader.now c.args.scratch.now c.fed_pairs.new.scratch c.in_ok-pairs.ensures.grows c.args.pattern.now c.args.graph c.args.ends c.in_ok-pairs.pairs c.in_ok-pairs-2.pairs c.in_ok-pairs-2.ensures c.requires.subject c.requires.object c.in_ok-pairs.ensures.serve
