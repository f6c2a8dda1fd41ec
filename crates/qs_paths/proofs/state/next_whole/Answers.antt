use Rattle.qs_paths.proofs.Opening.{some_left}
use Rattle.qs_paths.proofs.state.next_whole.Goals as goal

pub returns-in-Whole-clause-some : goal.returns-in-Whole-clause-some
returns-in-Whole-clause-some c = some_left c.args.state.now c.in-Whole.rows c.next_row.new.rows c.next_row.result c.in-Whole.is c.next_row.ensures.gives
