use Rattle.std.proofs.Common.{◌+◌, take, refl, sym, ap, ◌∙◌, subst, Contains}
use Rattle.std.proofs.lemmas.Bool.{false≢true}
use Rattle.qs_store.specs.inner.Layers.{IsPartOf}
use Rattle.qs_store.proofs.Drafted.{part_takes, part_leaves}
use Rattle.qs_store.proofs.layers.standing.Goals as goal
use Rattle.qs_store.proofs.layers.standing.Goals.{then-contains_from+in_ok-push, else-contains_from}

pub loop-entry-preserved : goal.loop-entry-preserved
loop-entry-preserved c =
    let xs = c.args.entries.now in
    let i = c.loop-entry.entry-index in
    elim c.if-contains_from.branch [
      | then-contains_from+in_ok-push w ↦
          subst (λ l. IsPartOf (take (i + 1) xs) l (Contains c.args.index.now.entries)) (sym (ap (λ v. v.items) w.part-is ∙ w.in_ok-push.ensures.items))
          (part_takes (Contains c.args.index.now.entries) xs c.loop-entry.part.items i c.loop-entry-test.true (w.if-contains_from.ensures.0 refl) c.loop-entry.invariant)
      | else-contains_from w ↦
          subst (λ l. IsPartOf (take (i + 1) xs) l (Contains c.args.index.now.entries)) (sym (ap (λ v. v.items) w.part-is))
          (part_leaves (Contains c.args.index.now.entries) xs c.loop-entry.part.items i c.loop-entry-test.true (λ m. false≢true (w.if-contains_from.ensures.1 m)) c.loop-entry.invariant)
    ]
