use Rattle.std.specs.Option.{option_copied}
use Rattle.qs_query_solutions.proofs.Collecting.{are_after}
use Rattle.qs_query_solutions.proofs.solutions.solutions_after.Goals as goal

pub returns-in-Ok : goal.returns-in-Ok
returns-in-Ok g c =
    are_after (option_copied c.args.columns) c.args.offset c.args.most c.collect_all.new.found _ c.into_rows.result.items c.into_rows.ensures (rw (c.new-found.ensures, c.most_left.ensures) at c.in-Ok.ensures)
