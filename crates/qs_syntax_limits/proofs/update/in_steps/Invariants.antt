use Rattle.std.proofs.Common.{◌≡◌, None, take, fold}
use Rattle.qs_syntax_limits.specs.Large as spec
use Rattle.qs_syntax_limits.specs.inner.Parts as inner
use Rattle.qs_syntax_limits.specs.inner.Parts.{further}
use Rattle.qs_syntax_limits.proofs.update.in_steps.Given as goal

abbrev pub invariant-loop-step : goal.invariant-loop-step
invariant-loop-step l = l.found ≡ fold (further (λ s. inner.given spec.operation s.operation)) None (take l.step-index l.all)
