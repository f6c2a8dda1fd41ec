use Rattle.std.proofs.Common.{refl, subst, []}
use Rattle.qs_plan.specs.declared.certain.Size.{Size}
use Rattle.qs_plan.specs.inner.Certain.{SameFrom}
use Rattle.qs_plan.proofs.Entering.{plan_from}
use Rattle.qs_plan.proofs.parts.parted_plan.Goals as goal

pub returns : goal.returns
returns g c =
    let size : Size = record { width = c.args.plan.now.width; cells = c.args.plan.now.cells } in
    plan_from _ c.args.plan.now size refl refl refl refl (subst (λ l. SameFrom size [] c.in_ok-stages.stages l) c.as_slice.ensures c.in_ok-stages.ensures)
