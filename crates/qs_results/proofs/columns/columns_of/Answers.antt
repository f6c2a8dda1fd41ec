use Rattle.std.proofs.Common.{sym, ◌∙◌}
use Rattle.qs_results.proofs.Sorted.{column_more}
use Rattle.qs_results.proofs.columns.columns_of.Goals as goal

pub loop-at-preserved : goal.loop-at-preserved
loop-at-preserved c =
    column_more _ _ _ _ _ _ _ c.loop-at-test.true c.index-vars-at.is c.in_ok-name.ensures c.loop-at.invariant c.in_ok-insert.ensures.entries c.in_ok-insert.ensures.old (sym c.is_some.ensures ∙ c.if-is_some.false)
