use Rattle.std.proofs.Common.{arith}
use Rattle.qs_plan.proofs.Placing.{firm_later}
use Rattle.qs_plan.proofs.filters.place_of.Goals as goal

pub returns-clause-firm : goal.returns-clause-firm
returns-clause-firm c =
    firm_later c.args.size c.args.given.now c.settle.new.variables.items c.as_slice.result.now c.args.condition.now c.args.stages.now c.all_steady_from-place.result c.past_filters-last.result c.in_ok-settle.ensures.settles c.as_slice.ensures.value c.all_steady_from-place.ensures.steady
    (omega (arith, c.past_first-first.ensures.up, c.past_filters-last.ensures.up))
