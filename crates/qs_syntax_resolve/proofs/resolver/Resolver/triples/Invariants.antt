use Rattle.std.proofs.Common.{◌≡◌, drop}
use Rattle.qs_syntax_resolve.specs.Triples.{triples_after}
use Rattle.qs_syntax_resolve.proofs.resolver.Resolver.triples.Given as goal

abbrev pub invariant-loop-triples : goal.invariant-loop-triples
invariant-loop-triples l = triples_after l.found (drop l.triples-index l.all) l.self ≡ triples_after l.fn.found l.all l.fn.self
