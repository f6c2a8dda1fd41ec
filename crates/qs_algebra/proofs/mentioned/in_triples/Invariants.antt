use Rattle.std.proofs.Common.{◌≡◌, take}
use Rattle.qs_algebra_patterns.specs.Basic.{mentions}
use Rattle.qs_algebra.specs.inner.Flags.{flags_from}
use Rattle.qs_algebra.proofs.mentioned.in_triples.Given as goal

abbrev pub invariant-loop-triple : goal.invariant-loop-triple
invariant-loop-triple l = l.flags.items ≡ flags_from (mentions (take l.triple-index l.triples)) 0 l.width
