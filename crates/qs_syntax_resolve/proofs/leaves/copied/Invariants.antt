use Rattle.std.proofs.Common.{◌≡◌, take}
use Rattle.qs_syntax_resolve.proofs.leaves.copied.Given as goal

abbrev pub invariant-loop-variable : goal.invariant-loop-variable
invariant-loop-variable l = l.copies ≡ take l.variable-index l.variables
