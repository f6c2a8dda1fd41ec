use Rattle.std.proofs.Common.{◌≡◌, None, take, fold}
use Rattle.qs_syntax_limits.specs.Large as spec
use Rattle.qs_syntax_limits.specs.inner.Parts.{further}
use Rattle.qs_syntax_limits.proofs.query.in_order.Given as goal

abbrev pub invariant-loop-condition : goal.invariant-loop-condition
invariant-loop-condition l = l.found ≡ fold (further (λ condition. spec.expression condition.key)) None (take l.condition-index l.all)
