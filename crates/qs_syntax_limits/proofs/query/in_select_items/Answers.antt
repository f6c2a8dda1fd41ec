use Rattle.qs_syntax_limits.specs.Large as spec
use Rattle.qs_syntax_limits.proofs.Rows.{from_none_at_end}
use Rattle.qs_syntax_limits.proofs.query.in_select_items.Goals as goal

pub returns : goal.returns
returns c = from_none_at_end spec.select_item c.loop-item.found c.args.all.now c.loop-item.item-index c.loop-item-test.false c.loop-item.invariant
