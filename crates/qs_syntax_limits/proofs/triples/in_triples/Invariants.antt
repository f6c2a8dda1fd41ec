use Rattle.std.proofs.Common.{◌≡◌, None, take, fold}
use Rattle.qs_syntax_limits.specs.inner.Parts.{further, same_subject}
use Rattle.qs_syntax_limits.proofs.triples.in_triples.Given as goal

abbrev pub invariant-loop-triples : goal.invariant-loop-triples
invariant-loop-triples l = l.found ≡ fold (further same_subject) None (take l.triples-index l.all)
