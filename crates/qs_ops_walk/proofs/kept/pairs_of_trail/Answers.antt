use Rattle.qs_store.specs.inner.ActiveGraph.{active_graph}
use Rattle.qs_ops_scans.proofs.FedPairs.{serve_all}
use Rattle.qs_ops_scans.specs.inner.Paths.{row_ends}
use Rattle.qs_ops_walk.specs.inner.Setting.{known_of}
use Rattle.qs_ops_walk.proofs.Still.{end_pairs_still, pairs_still}
use Rattle.qs_ops_walk.proofs.kept.pairs_of_trail.Goals as goal

pub returns-then-are_bound-clause-kept : goal.returns-then-are_bound-clause-kept
returns-then-are_bound-clause-kept g c =
    pairs_still c.args.reader.now c.args.scratch.now c.pairs_of_ends.new.scratch c.in_ok-own.ensures.grows c.args.trail.now.pattern.now c.args.trail.now.kept c.requires.kept

pub returns-clause-last : goal.returns-clause-last
returns-clause-last g c =
    end_pairs_still c.args.reader.now c.args.scratch.now c.all_pairs.new.scratch c.in_ok-own-2.ensures.grows c.args.trail.now.pattern.now c.args.trail.now.last c.requires.last

pub returns-clause-pairs : goal.returns-clause-pairs
returns-clause-pairs g c =
    record {
      graph = c.graph_of_look-graph.result;
      looks = c.graph_of_look-graph.ensures;
      serve =
          serve_all (known_of c.args.reader.now) c.all_pairs.new.scratch c.args.trail.now.pattern.now
          (active_graph c.args.reader.now.content c.args.reader.now.default c.graph_of_look-graph.result) (row_ends c.args.trail.now.pattern.now c.args.row.now) c.in_ok-own-2.own c.in_ok-own-2.ensures.pairs;
    }
