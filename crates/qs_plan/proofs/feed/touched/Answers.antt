use Rattle.std.proofs.Common.{inl, inr, ◌∙◌, ap}
use Rattle.qs_plan.proofs.Needs.{touches_step}
use Rattle.qs_plan.proofs.feed.touched.Goals.{then-not-leave_all+in_ok-push, else-not-leave_all}
use Rattle.qs_plan.proofs.feed.touched.Goals as goal

pub loop-variable-preserved : goal.loop-variable-preserved
loop-variable-preserved c =
    touches_step c.loop-variable.variable c.args.stages.now c.loop-variable.found.items c.if-not-leave_all.found.items c.loop-variable.invariant
    (elim c.if-not-leave_all.branch [
      | then-not-leave_all+in_ok-push w ↦ inl (ap (λ x. x.items) w.found-is ∙ w.in_ok-push.ensures.items)
      | else-not-leave_all w ↦ inr (ap (λ x. x.items) w.found-is, c.leave_all.ensures w.if-not-leave_all.false)
    ])
