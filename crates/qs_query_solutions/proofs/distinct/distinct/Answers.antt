use Rattle.qs_query_solutions.proofs.EachOnce.{are_distinct}
use Rattle.qs_query_solutions.proofs.distinct.distinct.Goals as goal

pub returns : goal.returns
returns g c all e =
    are_distinct c.collect.new.op.known c.collect.new.op.table c.args.columns.now c.args.most all c.in_ok-found.found c.in_ok-solutions.solutions.items c.in_ok-solutions.ensures (c.in_ok-found.ensures.rows all e)
