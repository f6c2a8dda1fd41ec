use Rattle.std.proofs.Common.{◌≡◌, map, take}
use Rattle.qs_algebra.specs.Translation.{block_step}
use Rattle.qs_algebra.proofs.blocks.block_steps.Given as goal

abbrev pub invariant-loop-block : goal.invariant-loop-block
invariant-loop-block l = l.steps ≡ map (block_step l.names) (take l.block-index l.blocks)
