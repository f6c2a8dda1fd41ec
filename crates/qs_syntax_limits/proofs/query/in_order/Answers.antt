use Rattle.qs_syntax_limits.specs.Large as spec
use Rattle.qs_syntax_limits.proofs.Rows.{from_none_at_end}
use Rattle.qs_syntax_limits.proofs.query.in_order.Goals as goal

pub returns : goal.returns
returns c = from_none_at_end (λ condition. spec.expression condition.key) c.loop-condition.found c.args.all.now c.loop-condition.condition-index c.loop-condition-test.false c.loop-condition.invariant
