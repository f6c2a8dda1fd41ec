use Rattle.std.proofs.Common.{◌≡◌, drop, take}
use Rattle.std.specs.List.{filter_map}
use Rattle.qs_expr.specs.inner.Cell.{Cells}
use Rattle.qs_ops_scans.specs.inner.Ends.{act_made}
use Rattle.qs_ops_scans.proofs.paths.next_pair.Given as goal

-- the pairs that were passed make no row
abbrev pub invariant-loop-place : goal.invariant-loop-place
invariant-loop-place l = (m : Cells) → filter_map (act_made l.acts m) (drop l.fn.from (take l.to l.cells)) ≡ filter_map (act_made l.acts m) (drop l.place (take l.to l.cells))
