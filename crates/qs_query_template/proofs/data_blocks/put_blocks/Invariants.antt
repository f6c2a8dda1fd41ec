use Rattle.std.proofs.Common.{◌≡◌, ◌++◌, take}
use Rattle.std.specs.List.{flat_map}
use Rattle.qs_query_template.specs.inner.DataBlocks.{block_quads}
use Rattle.qs_query_template.proofs.data_blocks.put_blocks.Given as goal

abbrev pub invariant-loop-block : goal.invariant-loop-block
invariant-loop-block l = l.quads ≡ l.initial.quads ++ flat_map (block_quads l.blanks l.first) (take l.block-index l.blocks)
