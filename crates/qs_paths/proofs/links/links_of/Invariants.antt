use Rattle.std.proofs.Common.{take}
use Rattle.qs_paths_meaning.specs.inner.Links.{rows_of}
use Rattle.qs_paths.specs.inner.Links.{IsWeb, LinkPairs}
use Rattle.qs_paths.proofs.links.links_of.Given as goal

abbrev pub invariant-loop-pair : goal.invariant-loop-pair
invariant-loop-pair l = record {
  web : IsWeb l.links.nodes.keys (rows_of l.links.next.items);
  links : LinkPairs l.links.nodes.keys (rows_of l.links.next.items) (take l.pair-index l.pairs);
}
