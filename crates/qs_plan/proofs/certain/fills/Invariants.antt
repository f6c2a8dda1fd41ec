use Rattle.qs_plan.specs.inner.Certain.{Filled}
use Rattle.qs_plan.proofs.certain.fills.Given as goal

abbrev pub invariant-loop-at : goal.invariant-loop-at
invariant-loop-at l = Filled l.variable l.columns l.row l.at
