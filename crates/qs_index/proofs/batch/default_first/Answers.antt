use Rattle.std.proofs.Common.{◌<◌, length, sym, ◌∙◌, arith}
use Rattle.std.proofs.lemmas.List.Sorted.{IsPermutation-trans}
use Rattle.qs_index.proofs.Parted.{default_more, named_more, named_here}
use Rattle.qs_index.proofs.batch.default_first.Goals.{then-not-is_named, else-not-is_named}
use Rattle.qs_index.proofs.batch.default_first.Goals as goal

pub loop-i-preserved : goal.loop-i-preserved
loop-i-preserved c =
    let i = c.loop-i.invariant in
    let within : c.loop-i.i < length c.loop-i.entries = omega (arith, c.loop-i-test.true, c.loop-i.auto.i-end, i.long) in
    elim c.if-not-is_named.branch [
      | then-not-is_named w ↦ rw (w.entries-is, w.first-is) record {
        within = omega (arith, i.within);
        long = w.swap.ensures.len ∙ i.long;
        default = default_more c.loop-i.entries w.swap.new.self c.loop-i.first c.loop-i.i i.within w.swap.ensures.by_index (sym w.if-not-is_named.ensures) (omega (arith, w.swap.ensures.len)) within i.default;
        named = named_more c.loop-i.entries w.swap.new.self c.loop-i.first c.loop-i.i i.within w.swap.ensures.by_index i.named;
        permutation = IsPermutation-trans _ c.loop-i.entries w.swap.new.self i.permutation w.swap.ensures.permutation;
      }
      | else-not-is_named w ↦ rw (w.entries-is, w.first-is) record {
        within = omega (arith, i.within);
        long = i.long;
        default = i.default;
        named = named_here c.loop-i.entries c.loop-i.first c.loop-i.i within (sym w.if-not-is_named.ensures) i.named;
        permutation = i.permutation;
      }
    ]
