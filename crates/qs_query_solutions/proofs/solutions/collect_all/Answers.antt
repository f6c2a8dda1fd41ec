use Rattle.std.specs.Option.{option_copied}
use Rattle.std.proofs.lemmas.Result.{on_ok_weaker}
use Rattle.qs_query_solutions.proofs.SeenQuads.{collected_are_seen}
use Rattle.qs_query_solutions.proofs.solutions.collect_all.Goals as goal

pub returns : goal.returns
returns g c =
    on_ok_weaker c.collect_planned-outcome.result
    (collected_are_seen (g.V.View.content c.args.view.now) c.count-count.ensures.lawful (g.V.View.default_seen c.args.view.now) c.in_ok-plan.plan c.args.pattern.now c.in_ok-plan.ensures.plan (option_copied c.args.name) c.active_of-active.result c.active_of-active.ensures c.args.offset c.args.found.now c.collect_planned-outcome.new.found)
    c.collect_planned-outcome.ensures
