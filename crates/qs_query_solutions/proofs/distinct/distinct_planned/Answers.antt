use Rattle.std.proofs.lemmas.Result.{IfOk-weaker}
use Rattle.qs_query_solutions.proofs.EachOnce.{distinct_planned}
use Rattle.qs_query_solutions.proofs.distinct.distinct_planned.Goals as goal

pub returns : goal.returns
returns g c =
    IfOk-weaker c.distinct-found.result _ _
    (λ rows. distinct_planned c.args.columns.now c.args.most rows.items _ c.in_ok-op.op.rows c.in_ok-op.ensures.rows)
    c.distinct-found.ensures
