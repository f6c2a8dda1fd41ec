use Rattle.std.proofs.Common.{◌≡◌, map, drop}
use Rattle.qs_syntax_resolve.specs.Data.{value_of}
use Rattle.qs_syntax_resolve.specs.Resolving.{all, all_after}
use Rattle.qs_syntax_resolve.proofs.resolver.Resolver.data_row.Given as goal

abbrev pub invariant-loop-value : goal.invariant-loop-value
invariant-loop-value l = all_after l.found (map value_of (drop l.value-index l.row)) l.self ≡ all (map value_of l.row) l.fn.self
