use Rattle.std.proofs.Common.{◌+◌, take, refl, sym, ap, ◌∙◌, subst}
use Rattle.std.proofs.lemmas.Bool.{false≢true}
use Rattle.qs_store.specs.inner.Missing.{MayBeMissing}
use Rattle.qs_store.specs.inner.Layers.{IsPartOf}
use Rattle.qs_store.proofs.Drafted.{part_takes, part_leaves}
use Rattle.qs_store.proofs.layers.missing.Goals as goal
use Rattle.qs_store.proofs.layers.missing.Goals.{then-may_be_missing+in_ok-push, else-may_be_missing}

pub loop-entry-preserved : goal.loop-entry-preserved
loop-entry-preserved c =
    let xs = c.args.entries.now in
    let i = c.loop-entry.entry-index in
    let P = MayBeMissing c.args.index.now.entries c.args.removed.now.entries c.args.taken.now in
    elim c.if-may_be_missing.branch [
      | then-may_be_missing+in_ok-push w ↦
          subst (λ l. IsPartOf (take (i + 1) xs) l P) (sym (ap (λ v. v.items) w.part-is ∙ w.in_ok-push.ensures.items))
          (part_takes P xs c.loop-entry.part.items i c.loop-entry-test.true (w.if-may_be_missing.ensures.0 refl) c.loop-entry.invariant)
      | else-may_be_missing w ↦
          subst (λ l. IsPartOf (take (i + 1) xs) l P) (sym (ap (λ v. v.items) w.part-is))
          (part_leaves P xs c.loop-entry.part.items i c.loop-entry-test.true (λ m. false≢true (w.if-may_be_missing.ensures.1 m)) c.loop-entry.invariant)
    ]
