use Rattle.std.proofs.Common.{[], inl, inr, sym, ◌∙◌, arith}
use Rattle.qs_plan.proofs.Getting.{given_binds}
use Rattle.qs_plan.proofs.Moving.{steady_end, steady_step}
use Rattle.qs_plan.proofs.certain.steady_from.Goals.{then-not-stays, else-not-stays, then-is_known, else-is_known}
use Rattle.qs_plan.proofs.certain.steady_from.Goals as goal

pub loop-at-init : goal.loop-at-init
loop-at-init c = (omega arith, (λ h. given_binds c.args.variable c.args.size c.args.given.now [] (c.is_among-is_known.ensures h)), steady_end c.args.size c.args.given.now c.args.variable [] 0 (omega arith))

pub loop-at-preserved : goal.loop-at-preserved
loop-at-preserved c =
    steady_step c.args.size c.args.given.now c.args.variable c.args.stages.now c.loop-at.at c.index-stages-at.result c.loop-at.place c.if-not-stays.place c.loop-at.is_known c.if-is_known.is_known c.loop-at-test.true c.index-stages-at.is c.loop-at.invariant
    (elim c.if-not-stays.branch [ then-not-stays w ↦ inl w.place-is | else-not-stays w ↦ inr (w.place-is, c.stays.ensures w.if-not-stays.false) ])
    (elim c.if-is_known.branch [ then-is_known w ↦ λ h. inl w.if-is_known.true | else-is_known w ↦ λ h. inr (w.is_bound_after-is_known.ensures (sym w.is_known-is ∙ h)) ])
