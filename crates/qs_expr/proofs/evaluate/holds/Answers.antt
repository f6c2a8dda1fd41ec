use Rattle.std.proofs.Common.{◌≡◌, subst}
use Rattle.std.specs.Prelude.{IfOk}
use Rattle.qs_algebra_solutions.specs.Solution.{Solution}
use Rattle.qs_expr_meaning.specs.Meaning as spec
use Rattle.qs_expr.proofs.evaluate.holds.Goals as goal

pub returns-clause-value : goal.returns-clause-value
returns-clause-value g c = subst (λ (m : Solution). IfOk c.holds.result (λ b. b ≡ spec.holds m c.args.expr.now)) c.new.ensures c.holds.ensures.value
