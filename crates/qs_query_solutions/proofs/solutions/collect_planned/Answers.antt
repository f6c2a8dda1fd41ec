use Rattle.std.proofs.lemmas.Result.{on_ok_weaker}
use Rattle.qs_query_solutions.proofs.Coming.{planned}
use Rattle.qs_query_solutions.proofs.solutions.collect_planned.Goals as goal

pub returns : goal.returns
returns g c =
    on_ok_weaker c.collect_after-outcome.result (planned c.args.offset c.args.found.now c.collect_after-outcome.new.found _ c.in_ok-op.op.rows c.in_ok-op.ensures.rows) c.collect_after-outcome.ensures
