use Rattle.std.proofs.Common.{◌≡◌, length}
use Rattle.std.specs.Prelude.{reverse}
use Rattle.qs_syntax_resolve.specs.inner.Update.{steps}
use Rattle.qs_syntax_resolve.proofs.resolver.Resolver.steps.Given as goal

abbrev pub invariant-loop-step : goal.invariant-loop-step
invariant-loop-step l = steps l.found (reverse l.rest) l.self ≡ steps l.fn.found l.fn.all l.fn.self

abbrev pub decreases-loop-step : goal.decreases-loop-step
decreases-loop-step l = length l.rest
