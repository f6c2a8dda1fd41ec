use Rattle.std.proofs.Common.{◌≡◌, drop}
use Rattle.std.specs.List.{fold}
use Rattle.qs_algebra.specs.Numbers.{hidden_of, add_triple}
use Rattle.qs_algebra.proofs.hidden.hidden_of.Given as goal

abbrev pub invariant-loop-triple : goal.invariant-loop-triple
invariant-loop-triple l = fold add_triple l.hidden (drop l.triple-index l.triples) ≡ hidden_of l.triples
