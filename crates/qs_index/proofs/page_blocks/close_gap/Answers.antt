use Rattle.std.proofs.Common.{◌+◌, arith, refl}
use Rattle.qs_index.proofs.Blocks.{gap_end, gap_above, gap_at_same}
use Rattle.qs_index.proofs.page_blocks.close_gap.Goals as goal

pub carry_down-requires-clause-some : goal.carry_down-requires-clause-some
carry_down-requires-clause-some c =
    let k = c.loop-k.k in
    let h = c.loop-k.invariant.gap (k + 1) in
    let g = gap_above (k + 1) k (omega arith) in
    omega (arith, c.loop-k-test.true, c.requires.first)

pub carry_down-requires-clause-room : goal.carry_down-requires-clause-room
carry_down-requires-clause-room c =
    let k = c.loop-k.k in
    let h = c.loop-k.invariant.gap k in
    let g = gap_at_same k k refl in
    omega arith

pub returns-clause-filled : goal.returns-clause-filled
returns-clause-filled c = λ j.
    gap_end j c.args.count c.loop-k.k _ (omega (arith, c.loop-k.invariant.below, c.requires.first)) (omega (arith, c.loop-k-test.false, c.requires.first)) (c.loop-k.invariant.gap j)
