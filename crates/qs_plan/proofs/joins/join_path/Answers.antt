use Rattle.std.proofs.Common.{[], ◌∷◌, ap, ◌∙◌, subst}
use Rattle.qs_syntax_ast.specs.declared.path.Path.{Path}
use Rattle.qs_plan_meaning.specs.declared.stage.Look.{Look}
use Rattle.qs_plan_meaning.specs.declared.stage.Stage.TheVariants as stage
use Rattle.qs_plan.specs.inner.Joins.{Joined, between}
use Rattle.qs_plan.proofs.Joining.{whole_joined}
use Rattle.qs_plan.proofs.joins.join_path.Goals as goal

pub returns-then-is_joined : goal.returns-then-is_joined
returns-then-is_joined c =
    subst (λ (p : Path). Joined c.args.look.now c.args.from c.in_ok-laid.laid.next c.in_ok-laid.laid.stages (between c.args.pattern.subject p c.args.pattern.object)) c.get.ensures c.in_ok-laid.ensures

pub returns : goal.returns
returns c = whole_joined c.args.look.now c.args.from _ _ c.args.pattern c.requires.left c.requires.right (c.in_ok-laid-2.ensures.0 ∙ ap (λ (l : Look). stage.Path l c.args.pattern ∷ []) c.in_ok-look.ensures)
    c.in_ok-laid-2.ensures.1
