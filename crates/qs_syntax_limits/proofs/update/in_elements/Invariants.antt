use Rattle.std.proofs.Common.{◌≡◌, take, fold}
use Rattle.qs_syntax_limits.specs.Large as spec
use Rattle.qs_syntax_limits.specs.inner.Parts.{further}
use Rattle.qs_syntax_limits.proofs.update.in_elements.Given as goal

abbrev pub invariant-loop-element : goal.invariant-loop-element
invariant-loop-element l = l.found ≡ fold (further (λ e. spec.quads e.quads)) l.initial.found (take l.element-index l.all)
