use Rattle.std.proofs.Common.{◌≡◌, take}
use Rattle.qs_algebra_patterns.proofs.table.row_copy.Given as goal

abbrev pub invariant-loop-term : goal.invariant-loop-term
invariant-loop-term l = l.copy ≡ take l.term-index l.row
