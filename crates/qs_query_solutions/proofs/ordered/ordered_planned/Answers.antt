use Rattle.std.specs.Option.{option_copied}
use Rattle.std.proofs.lemmas.Result.{IfOk-weaker}
use Rattle.qs_query_solutions.proofs.InOrder.{part_planned}
use Rattle.qs_query_solutions.proofs.ordered.ordered_planned.Goals as goal

pub returns : goal.returns
returns g c =
    IfOk-weaker c.ordered-rows.result _ _
    (λ rows. part_planned c.args.part.conditions.now (option_copied c.args.part.columns) c.args.part.offset c.args.part.count c.args.part.most rows.items _ c.in_ok-op.op.rows c.in_ok-op.ensures.rows)
    c.ordered-rows.ensures
