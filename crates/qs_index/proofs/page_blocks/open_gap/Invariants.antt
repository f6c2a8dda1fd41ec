use Rattle.std.proofs.Common.{◌≡◌, ◌+◌, ◌*◌, ◌≤◌, length}
use Rattle.qs_index.specs.inner.PageBlocks.{flat, HasGap}
use Rattle.qs_index.proofs.page_blocks.open_gap.Given as goal

abbrev pub decreases-loop-k : goal.decreases-loop-k
decreases-loop-k l = l.k

abbrev pub invariant-loop-k : goal.invariant-loop-k
invariant-loop-k l = record {
  above : l.fn.first ≤ l.k;
  below : 256 * l.k ≤ l.fn.count;
  same : flat l.blocks.items ≡ flat l.fn.blocks.items;
  gap : HasGap l.blocks.items l.k (l.fn.count + 1);
  kept : length l.blocks.items ≡ length l.fn.blocks.items;
}
