use Rattle.std.proofs.Common.{◌≡◌, drop, length}
use Rattle.qs_syntax_resolve.specs.Triples.{triples_after}
use Rattle.qs_syntax_resolve.proofs.resolver.Resolver.consumed_triples.Given as goal

abbrev pub invariant-loop-at : goal.invariant-loop-at
invariant-loop-at l = record {
  count : length l.all ≡ length l.fn.all;
  rest : triples_after l.found (drop l.at l.all) l.self ≡ triples_after l.fn.found l.fn.all l.fn.self;
}
