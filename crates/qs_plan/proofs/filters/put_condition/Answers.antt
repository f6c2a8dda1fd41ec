use Rattle.std.proofs.Common.{sym, ◌∙◌}
use Rattle.qs_plan.proofs.Placing.{parts_put}
use Rattle.qs_plan.proofs.filters.put_condition.Goals as goal

pub returns-in_ok-put_parts-in-And : goal.returns-in_ok-put_parts-in-And
returns-in_ok-put_parts-in-And c = parts_put c.args.waiting.now c.put_parts.new.waiting c.in-And.parts c.as_slice.result.now c.args.condition.now (sym c.get.ensures ∙ c.in-And.is) c.as_slice.ensures c.in_ok-put_parts-in-And.ensures
