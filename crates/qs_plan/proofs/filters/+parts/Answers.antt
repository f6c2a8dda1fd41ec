use Rattle.qs_plan.proofs.Placing.{part_more, parts_put}
use Rattle.qs_plan.proofs.filters.+parts.Goals as goal

pub put_part-returns-in_ok-put_parts-in-And : goal.put_part-returns-in_ok-put_parts-in-And
put_part-returns-in_ok-put_parts-in-And t c = parts_put c.args.waiting.now c.put_parts.new.waiting c.in-And.parts c.as_slice.result.now c.args.part.now c.in-And.is c.as_slice.ensures c.in_ok-put_parts-in-And.ensures

pub put_parts-loop-part-preserved : goal.put_parts-loop-part-preserved
put_parts-loop-part-preserved t c =
    part_more c.args.parts.now c.loop-part.part-index c.part-item.result c.args.waiting.now c.loop-part.waiting c.put_part.new.waiting c.loop-part-test.true c.part-item.is c.loop-part.invariant c.in_ok-put_part.ensures
