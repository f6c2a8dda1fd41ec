use Rattle.std.proofs.Common.{◌≡◌, ◌≤◌, true, take}
use Rattle.qs_plan.specs.inner.Certain.{Binds, Steady}
use Rattle.qs_plan.proofs.certain.steady_from.Given as goal

abbrev pub invariant-loop-at : goal.invariant-loop-at
invariant-loop-at l = (l.place ≤ l.at) × (l.is_known ≡ true → Binds l.size l.given l.variable (take l.at l.stages)) × Steady l.size l.given l.variable l.place (take l.at l.stages)
