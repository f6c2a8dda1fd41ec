use Rattle.qs_syntax_limits.specs.Large as spec
use Rattle.qs_syntax_limits.specs.inner.Parts as inner
use Rattle.qs_syntax_limits.proofs.Rows.{from_none_at_end}
use Rattle.qs_syntax_limits.proofs.update.in_steps.Goals as goal

pub returns : goal.returns
returns c = from_none_at_end (λ s. inner.given spec.operation s.operation) c.loop-step.found c.args.all.now c.loop-step.step-index c.loop-step-test.false c.loop-step.invariant
