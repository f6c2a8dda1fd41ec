use Rattle.std.proofs.Common.{◌≡◌, map, take}
use Rattle.qs_algebra.specs.inner.Translation.{number_of}
use Rattle.qs_algebra.proofs.table.numbers.Given as goal

abbrev pub invariant-loop-variable : goal.invariant-loop-variable
invariant-loop-variable l = l.numbers ≡ map (number_of l.names) (take l.variable-index l.variables)
