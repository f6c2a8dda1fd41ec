use Rattle.std.proofs.Common.{◌≡◌, map, drop}
use Rattle.qs_syntax_resolve.specs.Data.{row_of}
use Rattle.qs_syntax_resolve.specs.Resolving.{all, all_after}
use Rattle.qs_syntax_resolve.proofs.resolver.Resolver.data_rows.Given as goal

abbrev pub invariant-loop-row : goal.invariant-loop-row
invariant-loop-row l = all_after l.found (map row_of (drop l.row-index l.rows)) l.self ≡ all (map row_of l.rows) l.fn.self
