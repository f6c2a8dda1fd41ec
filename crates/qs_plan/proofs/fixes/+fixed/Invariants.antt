use Rattle.qs_plan.specs.inner.Fixes.{Instead}
use Rattle.qs_plan.proofs.fixes.+fixed.Given as goal

abbrev pub invariant-put_tables-loop-condition : goal.invariant-put_tables-loop-condition
invariant-put_tables-loop-condition l = Instead l.size l.steps l.conditions l.fn.stages l.stages
