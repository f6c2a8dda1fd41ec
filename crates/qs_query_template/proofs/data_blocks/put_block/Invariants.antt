use Rattle.std.proofs.Common.{◌≡◌, ◌++◌, take}
use Rattle.std.specs.List.{flat_map}
use Rattle.qs_query_template.specs.inner.DataBlocks.{triple_quads}
use Rattle.qs_query_template.proofs.data_blocks.put_block.Given as goal

abbrev pub invariant-loop-triple : goal.invariant-loop-triple
invariant-loop-triple l = l.quads ≡ l.initial.quads ++ flat_map (triple_quads l.blanks l.first l.block.graph) (take l.triple-index l.block.triples)
