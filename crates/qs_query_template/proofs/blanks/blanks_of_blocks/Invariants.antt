use Rattle.std.proofs.Common.{◌≡◌, take}
use Rattle.qs_query_template.specs.inner.Blanks.{blocks_blanks, firsts}
use Rattle.qs_query_template.proofs.blanks.blanks_of_blocks.Given as goal

abbrev pub invariant-loop-block : goal.invariant-loop-block
invariant-loop-block l = l.blanks ≡ firsts (blocks_blanks (take l.block-index l.blocks))
