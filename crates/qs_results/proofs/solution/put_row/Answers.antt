use Rattle.qs_results.proofs.Tokens.{row_written}
use Rattle.qs_results.proofs.solution.put_row.Goals as goal

pub returns-clause-tokens : goal.returns-clause-tokens
returns-clause-tokens c = row_written _ _ _ _ _ _ c.loop-column-test.false c.loop-column.invariant.1 c.in_ok-end_object.ensures.ok
