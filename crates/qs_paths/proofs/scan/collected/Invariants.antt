use Rattle.std.proofs.Common.{◌≡◌, ◌++◌, length}
use Rattle.qs_paths.specs.inner.Scans.{edges_in, edges_left}
use Rattle.qs_paths.proofs.scan.collected.Given as goal

abbrev pub invariant-edges : goal.invariant-edges
invariant-edges l = edges_in l.fn.scan ≡ l.pairs.items ++ edges_left l.scan

abbrev pub decreases-edges : goal.decreases-edges
decreases-edges l = length (edges_left l.scan)
