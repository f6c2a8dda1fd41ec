use Rattle.std.proofs.Common.{◌∙◌}
use Rattle.qs_results.proofs.Tokens.{rows_written}
use Rattle.qs_results.proofs.Utf8.{taken_after}
use Rattle.qs_results.proofs.solution.with_each.Goals as goal

pub returns-clause-text : goal.returns-clause-text
returns-clause-text c =
    rows_written _ _ _ _ _ _ _ _ c.loop-row-test.false c.loop-row.invariant.1 c.in_ok-end_array.ensures.ok (c.end_array.ensures.room.0 ∙ c.loop-row.invariant.0) c.into_inner.ensures.items

pub returns-clause-utf8 : goal.returns-clause-utf8
returns-clause-utf8 c = taken_after _ _ _ _ (c.end_array.ensures.room.0 ∙ c.loop-row.invariant.0) c.into_inner.ensures.items c.into_inner.ensures.utf8
