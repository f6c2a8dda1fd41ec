use Rattle.std.proofs.Common.{inl, inr, refl, arith}
use Rattle.qs_plan.proofs.Moving.{all_steady_step}
use Rattle.qs_plan.proofs.certain.all_steady_from.Goals.{then-place-one, else-place-one}
use Rattle.qs_plan.proofs.certain.all_steady_from.Goals as goal

pub loop-at-preserved : goal.loop-at-preserved
loop-at-preserved c =
    all_steady_step c.args.size c.args.given.now c.args.stages.now c.args.variables.now c.loop-at.at _ _ c.loop-at.place c.steady_from-one.result c.if-place-one.place c.loop-at-test.true refl c.steady_from-one.ensures.within c.steady_from-one.ensures.steady c.loop-at.invariant
    (elim c.if-place-one.branch [ then-place-one w ↦ inl (w.place-is, omega (arith, w.if-place-one.true)) | else-place-one w ↦ inr (w.place-is, w.if-place-one.false) ])
