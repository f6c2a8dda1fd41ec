use Rattle.std.proofs.Common.{refl, subst}
use Rattle.std.proofs.lemmas.Result.{IfOk-weaker}
use Rattle.qs_plan.specs.inner.Plans.{SamePlan}
use Rattle.qs_plan.specs.inner.Sames.{SameStages}
use Rattle.qs_plan.proofs.Sames.{same_copy, same_plan}
use Rattle.qs_plan.proofs.order.counted_order.Goals as goal

pub returns-then-plan : goal.returns-then-plan
returns-then-plan g c = IfOk-weaker c.copied_plan.result _ (λ p. SamePlan p c.args.plan.now) (λ p e. same_copy p c.args.plan.now e) c.copied_plan.ensures

pub returns : goal.returns
returns g c = same_plan _ c.args.plan.now refl refl c.if-plan.false (subst (λ l. SameStages c.in_ok-stages.stages l) c.as_slice.ensures c.in_ok-stages.ensures)
