use Rattle.std.proofs.Common.{subst}
use Rattle.qs_expr.specs.inner.Evaluated.{Evaluates}
use Rattle.qs_ops_walk.specs.inner.Stream.{Stream}
use Rattle.qs_ops.proofs.op.Op.eval.Goals as goal

-- an evaluation is seen as its cursor is
pub returns-clause-value : goal.returns-clause-value
returns-clause-value g c = subst (λ (z : Stream). Evaluates z.known z.table c.eval.new.self.table c.args.row.now c.args.expr.now c.eval.result) c.self.view_is c.eval.ensures.value
