use Rattle.std.proofs.Common.{◌≡◌, take}
use Rattle.std.specs.List.{filter_map}
use Rattle.qs_algebra.specs.Basic.{triple_pattern}
use Rattle.qs_algebra.proofs.basic.triple_patterns.Given as goal

abbrev pub invariant-loop-triple : goal.invariant-loop-triple
invariant-loop-triple l = l.patterns ≡ filter_map (triple_pattern l.names l.hidden) (take l.triple-index l.triples)
