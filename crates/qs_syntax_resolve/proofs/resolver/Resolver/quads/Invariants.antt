use Rattle.std.proofs.Common.{◌≡◌, map, length}
use Rattle.std.specs.Prelude.{reverse}
use Rattle.qs_syntax_resolve.specs.inner.Update.{block_of}
use Rattle.qs_syntax_resolve.specs.Resolving.{all, all_after}
use Rattle.qs_syntax_resolve.proofs.resolver.Resolver.quads.Given as goal

abbrev pub invariant-loop-element : goal.invariant-loop-element
invariant-loop-element l = all_after l.found (map block_of (reverse l.rest)) l.self ≡ all (map block_of l.fn.all) l.fn.self

abbrev pub decreases-loop-element : goal.decreases-loop-element
decreases-loop-element l = length l.rest
