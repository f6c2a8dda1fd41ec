use Rattle.std.proofs.Common.{◌≡◌, map, drop}
use Rattle.qs_syntax_resolve.specs.Path.{path_of}
use Rattle.qs_syntax_resolve.specs.inner.Path.{operands}
use Rattle.qs_syntax_resolve.specs.Resolving.{all_after}
use Rattle.qs_syntax_resolve.proofs.resolver.Resolver.+path.Given as goal

abbrev pub invariant-operands-loop-operand : goal.invariant-operands-loop-operand
invariant-operands-loop-operand l = all_after l.found (map (λ o. path_of o.path) (drop l.operand-index l.all)) l.self ≡ operands l.all l.fn.self
