use Rattle.std.proofs.Common.{◌+◌, ◌-◌, ◌/◌, arith, refl}
use Rattle.qs_index.proofs.Blocks.{gap_start, gap_below, gap_at_same}
use Rattle.qs_index.proofs.page_blocks.open_gap.Goals as goal

pub loop-k-init : goal.loop-k-init
loop-k-init c = record {
  above = omega (arith, c.requires.first);
  below = omega arith;
  same = refl;
  gap = λ j. gap_start j c.args.count (c.args.count / 256) _ (omega arith) (omega arith) (c.requires.filled j);
  kept = refl;
}

pub carry_up-requires-clause-some : goal.carry_up-requires-clause-some
carry_up-requires-clause-some c =
    let k = c.loop-k.k in
    let h = c.loop-k.invariant.gap (k - 1) in
    let g = gap_below (k - 1) k (omega (arith, c.loop-k-test.true)) in
    omega (arith, c.loop-k.invariant.below, c.loop-k-test.true)

pub carry_up-requires-clause-room : goal.carry_up-requires-clause-room
carry_up-requires-clause-room c =
    let k = c.loop-k.k in
    let h = c.loop-k.invariant.gap (k - 1 + 1) in
    let g = gap_at_same (k - 1 + 1) k (omega (arith, c.loop-k-test.true)) in
    omega arith
