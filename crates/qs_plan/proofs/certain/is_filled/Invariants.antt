use Rattle.std.proofs.Common.{take, length}
use Rattle.std.specs.List.{AllByRecursion}
use Rattle.qs_plan.specs.inner.Certain.{Filled}
use Rattle.qs_plan.proofs.certain.is_filled.Given as goal

abbrev pub invariant-loop-row : goal.invariant-loop-row
invariant-loop-row l = AllByRecursion (λ row. Filled l.variable l.columns row (length l.columns)) (take l.row-index l.rows)
