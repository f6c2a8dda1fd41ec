use Rattle.qs_syntax_limits.specs.Large as spec
use Rattle.qs_syntax_limits.proofs.Rows.{gathered_at_end}
use Rattle.qs_syntax_limits.proofs.update.in_elements.Goals as goal

pub returns : goal.returns
returns c = gathered_at_end (λ e. spec.quads e.quads) c.args.found c.loop-element.found c.args.all.now c.loop-element.element-index c.loop-element-test.false c.loop-element.invariant
