use Rattle.std.proofs.Common.{◌≡◌, length}
use Rattle.qs_paths.specs.inner.Scans.{edges_left}
use Rattle.qs_paths.proofs.scan.next_edge.Given as goal

abbrev pub invariant-triples : goal.invariant-triples
invariant-triples l = edges_left l.fn.scan ≡ edges_left l.scan

abbrev pub decreases-triples : goal.decreases-triples
decreases-triples l = length l.scan.triples
