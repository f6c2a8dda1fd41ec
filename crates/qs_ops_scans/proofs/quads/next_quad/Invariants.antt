use Rattle.std.proofs.Common.{◌≡◌, length}
use Rattle.std.specs.List.{filter}
use Rattle.qs_ops_scans.specs.inner.Quads.{quad_passes}
use Rattle.qs_ops_scans.proofs.quads.next_quad.Given as goal

-- the quads that were passed are left out
abbrev pub invariant-quads : goal.invariant-quads
invariant-quads l = filter (quad_passes l.acts) l.fn.scan ≡ filter (quad_passes l.acts) l.scan

abbrev pub decreases-quads : goal.decreases-quads
decreases-quads l = length l.scan
