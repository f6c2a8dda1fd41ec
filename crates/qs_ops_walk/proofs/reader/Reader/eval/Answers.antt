use Rattle.std.proofs.Common.{subst}
use Rattle.qs_expr.specs.inner.Evaluated.{Evaluates}
use Rattle.qs_ops_walk.specs.inner.Setting.{Setting, known_of}
use Rattle.qs_ops_walk.proofs.reader.Reader.eval.Goals as goal

pub returns-clause-value : goal.returns-clause-value
returns-clause-value g c = subst (λ (x : Setting). Evaluates (known_of x) c.args.scratch.now c.eval.new.scratch c.args.row.now c.args.expr.now c.eval.result) c.self.view_is c.eval.ensures.value
