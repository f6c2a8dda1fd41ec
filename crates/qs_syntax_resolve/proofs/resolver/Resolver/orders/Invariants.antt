use Rattle.std.proofs.Common.{◌≡◌, map, drop}
use Rattle.qs_syntax_resolve.specs.Query.{order_of}
use Rattle.qs_syntax_resolve.specs.Resolving.{all, all_after}
use Rattle.qs_syntax_resolve.proofs.resolver.Resolver.orders.Given as goal

abbrev pub invariant-loop-order : goal.invariant-loop-order
invariant-loop-order l = all_after l.found (map order_of (drop l.order-index l.all)) l.self ≡ all (map order_of l.all) l.fn.self
