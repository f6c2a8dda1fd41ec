use Rattle.std.proofs.Common.{◌<◌, length, true, false, arith}
use Rattle.qs_index.proofs.Parted.{named_count_more}
use Rattle.qs_index.proofs.batch.count_named.Goals.{then-is_named, else-is_named}
use Rattle.qs_index.proofs.batch.count_named.Goals as goal

pub loop-i-preserved : goal.loop-i-preserved
loop-i-preserved c =
    let i = c.loop-i.invariant in
    let within : c.loop-i.i < length c.args.entries.now = omega (arith, c.loop-i-test.true, c.loop-i.auto.i-end) in
    elim c.if-is_named.branch [
      | then-is_named w ↦ rw (w.count-is) record {
        within = omega (arith, i.within);
        counted = omega (arith, i.counted, named_count_more c.args.entries.now c.loop-i.i true within w.if-is_named.ensures);
      }
      | else-is_named w ↦ rw (w.count-is) record {
        within = omega (arith, i.within);
        counted = omega (arith, i.counted, named_count_more c.args.entries.now c.loop-i.i false within w.if-is_named.ensures);
      }
    ]
