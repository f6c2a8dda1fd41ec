use Rattle.std.proofs.Common.{arith, ◌∙◌, ap, subst, map, List, [], ◌∷◌, Some}
use Rattle.qs_algebra_patterns.specs.declared.table.Table.{Table}
use Rattle.qs_plan_meaning.specs.declared.stage.Stage.{Stage}
use Rattle.qs_plan_meaning.specs.declared.stage.Stage.TheVariants.{Values}
use Rattle.qs_plan.specs.inner.Certain.{Binds}
use Rattle.qs_plan.proofs.Fixing.{table_instead}
use Rattle.qs_plan.proofs.fixes.put_fixed.Goals as goal

pub returns : goal.returns
returns c e h =
    table_instead c.args.size c.args.steps.now c.args.fixed.now.variable c.args.fixed.now.terms e c.in_ok-table.table c.args.stages.now c.put_first.new.stages h (c.steps_keep.ensures c.if-not-steps_keep.false) (omega (arith, c.if-variable-size.false))
    (subst (λ (ss : List Stage). Binds c.args.size [] c.args.fixed.now.variable ss) c.as_slice.ensures (c.is_bound.ensures c.if-not-is_bound.false)) c.in_ok-table.ensures.0
    (c.in_ok-table.ensures.1 ∙ ap (map (λ t. Some t ∷ [])) c.as_slice-2.ensures) (c.in_ok-put_first.ensures ∙ ap (λ (x : Table). Values x ∷ c.args.stages.now) c.in_ok-table-2.ensures)
