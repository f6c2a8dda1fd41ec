use Rattle.std.proofs.lemmas.Result.{on_ok_weaker}
use Rattle.qs_query_solutions.proofs.Coming.{after_passed}
use Rattle.qs_query_solutions.proofs.solutions.collect_after.Goals as goal

pub returns : goal.returns
returns g c =
    on_ok_weaker c.collect.result (after_passed c.args.op.now.rows c.pass.new.op.rows c.args.offset c.args.found.now c.collect.new.found c.in_ok-pass.ensures) c.collect.ensures
