use Rattle.std.proofs.Common.{refl, arith}
use Rattle.std.proofs.lemmas.Bool.{false≢true}
use Rattle.qs_store.specs.inner.Missing.{IsMissing}
use Rattle.qs_store.proofs.Drafted.{front_takes, front_leaves}
use Rattle.qs_store.proofs.layers.gather.Goals as goal
use Rattle.qs_store.proofs.layers.gather.Goals.{then-is_missing, else-is_missing}

pub loop-entry-preserved : goal.loop-entry-preserved
loop-entry-preserved c =
    let xs = c.args.entries.now in
    let i = c.loop-entry.entry-index in
    let n = c.loop-entry.count in
    let batch = c.loop-entry.batch in
    let new = c.if-is_missing.batch in
    let m = c.if-is_missing.count in
    let P = IsMissing c.args.index.now.entries c.args.removed.now.entries in
    let o = c.loop-entry.invariant in
    elim c.if-is_missing.branch [
      | then-is_missing w ↦ record {
        part = front_takes P xs batch new i n m c.loop-entry-test.true (w.if-is_missing.ensures.0 refl) (omega (arith, o.within, c.loop-entry-test.true, c.requires, c.loop-entry.auto.batch)) w.batch-is w.count-is o.part;
        within = omega (arith, o.within, w.count-is);
      }
      | else-is_missing w ↦ record {
        part = front_leaves P xs batch new i n m c.loop-entry-test.true (λ h. false≢true (w.if-is_missing.ensures.1 h)) w.batch-is w.count-is o.part;
        within = omega (arith, o.within, w.count-is);
      }
    ]
