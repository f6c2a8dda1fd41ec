use Rattle.qs_plan.specs.inner.Feeds.{Touches}
use Rattle.qs_plan.proofs.feed.touched.Given as goal

abbrev pub invariant-loop-variable : goal.invariant-loop-variable
invariant-loop-variable l = Touches l.variable l.stages l.found.items
