use Rattle.std.proofs.Common.{◌≡◌, length}
use Rattle.std.specs.List.{filter}
use Rattle.qs_ops_scans.specs.inner.Opened.{passes}
use Rattle.qs_ops_scans.proofs.triples.next_triple.Given as goal

-- the triples that were passed are left out
abbrev pub invariant-triples : goal.invariant-triples
invariant-triples l = filter (passes l.acts) l.fn.scan ≡ filter (passes l.acts) l.scan

abbrev pub decreases-triples : goal.decreases-triples
decreases-triples l = length l.scan
