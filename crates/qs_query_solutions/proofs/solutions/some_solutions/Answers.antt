use Rattle.qs_query_solutions.proofs.Collecting.{are_some, after_none}
use Rattle.qs_query_solutions.proofs.solutions.some_solutions.Goals as goal

pub returns-in-Ok : goal.returns-in-Ok
returns-in-Ok g c =
    are_some c.collect_all.new.found _ c.args.most c.into_rows.result.items c.into_rows.ensures (after_none _ c.collect_all.new.found _ (rw c.new-found.ensures at c.in-Ok.ensures))
