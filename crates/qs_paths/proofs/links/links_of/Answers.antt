use Rattle.std.proofs.Common.{get_or}
use Rattle.qs_paths_meaning.specs.inner.Links.{rows_of}
use Rattle.qs_paths.proofs.LinkLaws.{linked_more}
use Rattle.qs_paths.proofs.Names.{item, zero_pair}
use Rattle.qs_paths.proofs.links.links_of.Goals as goal

pub loop-pair-preserved : goal.loop-pair-preserved
loop-pair-preserved c = record {
  web = c.in_ok-link.ensures.web;
  links =
      linked_more c.loop-pair.links.nodes.keys c.link.new.self.nodes.keys (rows_of c.loop-pair.links.next.items) (rows_of c.link.new.self.next.items) c.args.pairs.now c.loop-pair.pair-index (get_or c.args.pairs.now c.loop-pair.pair-index zero_pair) c.loop-pair-test.true (item c.args.pairs.now c.loop-pair.pair-index zero_pair c.loop-pair-test.true)
      c.loop-pair.invariant.links c.in_ok-link.ensures.leads;
}
