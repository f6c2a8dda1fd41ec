use Rattle.std.proofs.Common.{◌≡◌, map, drop}
use Rattle.qs_syntax_resolve.specs.Query.{item_of}
use Rattle.qs_syntax_resolve.specs.Resolving.{all, all_after}
use Rattle.qs_syntax_resolve.proofs.resolver.Resolver.items.Given as goal

abbrev pub invariant-loop-item : goal.invariant-loop-item
invariant-loop-item l = all_after l.found (map item_of (drop l.item-index l.all)) l.self ≡ all (map item_of l.all) l.fn.self
