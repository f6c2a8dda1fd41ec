use Rattle.qs_plan.proofs.Fixing.{instead_more, instead_parts}
use Rattle.qs_plan.proofs.fixes.+fixed.Goals as goal

pub put_tables-loop-condition-preserved : goal.put_tables-loop-condition-preserved
put_tables-loop-condition-preserved t c =
    instead_more c.args.size c.args.steps.now c.args.conditions.now c.loop-condition.condition-index c.condition-item.result c.args.stages.now c.loop-condition.stages c.put_tables_of.new.stages c.loop-condition-test.true c.condition-item.is c.loop-condition.invariant c.in_ok-put_tables_of.ensures

pub put_tables_of-returns-in_ok-put_tables-in-And : goal.put_tables_of-returns-in_ok-put_tables-in-And
put_tables_of-returns-in_ok-put_tables-in-And t c =
    instead_parts c.args.size c.args.steps.now c.args.condition.now c.in-And.parts c.as_slice.result.now c.args.stages.now c.put_tables.new.stages c.in-And.is c.as_slice.ensures c.in_ok-put_tables-in-And.ensures
