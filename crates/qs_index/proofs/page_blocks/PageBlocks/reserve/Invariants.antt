use Rattle.std.proofs.Common.{◌≡◌, ◌+◌, ◌-◌, ◌*◌, ◌≤◌, length}
use Rattle.std.specs.Prelude.{vec_capacity}
use Rattle.qs_index.specs.inner.PageBlocks.{flat, IsTiered}
use Rattle.qs_index.proofs.page_blocks.PageBlocks.reserve.Given as goal

abbrev pub decreases-loop-self : goal.decreases-loop-self
decreases-loop-self l = l.needed - length l.self-inside.blocks.items

abbrev pub invariant-loop-self : goal.invariant-loop-self
invariant-loop-self l = record {
  tiered : IsTiered l.self-inside.blocks.items l.self-inside.count;
  same : flat l.self-inside.blocks.items ≡ l.fn.self.items;
  more : l.fn.self.room ≤ 256 * length l.self-inside.blocks.items;
  room : l.needed ≤ vec_capacity l.self-inside.blocks;
  total : l.total ≡ l.self-inside.count + l.wanted;
}
