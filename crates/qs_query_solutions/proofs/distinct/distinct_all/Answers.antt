use Rattle.std.specs.Option.{option_copied}
use Rattle.std.proofs.lemmas.List.Sorted.{IsPermutation-sym}
use Rattle.std.proofs.lemmas.Result.{IfOk-weaker}
use Rattle.qs_query_solutions.proofs.EachOnce.{distinct_same}
use Rattle.qs_query_solutions.proofs.SeenQuads.{planned_as_seen}
use Rattle.qs_query_solutions.proofs.distinct.distinct_all.Goals as goal

pub returns : goal.returns
returns g c =
    IfOk-weaker c.distinct_planned-rows.result _ _
    (λ rows. distinct_same c.args.columns.now c.args.most rows.items _ _
    (IsPermutation-sym _ _ (planned_as_seen (g.V.View.content c.args.view.now) c.count-count.ensures.lawful (g.V.View.default_seen c.args.view.now) c.in_ok-plan.plan c.args.pattern.now c.in_ok-plan.ensures (option_copied c.args.name) c.active_of-active.result c.active_of-active.ensures)))
    c.distinct_planned-rows.ensures
