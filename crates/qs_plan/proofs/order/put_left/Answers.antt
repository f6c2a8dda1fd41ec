use Rattle.std.proofs.Common.{drop, ◌∙◌}
use Rattle.qs_plan.specs.inner.Slots.{stages_at, stages_left}
use Rattle.qs_plan.proofs.Taking.{more_put, popped_put}
use Rattle.qs_plan.proofs.order.put_left.Goals as goal

pub left-preserved : goal.left-preserved
left-preserved c =
    let ss = drop c.args.run.from c.args.stages.now in
    more_put c.args.run.register (stages_at c.args.stages.now c.args.places.now.items) (stages_left ss c.args.left.items) (stages_at c.args.stages.now c.left.places.items) (stages_left ss c.left.left.items) (stages_at c.args.stages.now c.put_flagged.new.places.items) (stages_left ss c.pop.new.self.items) c.left.invariant
    (popped_put c.args.run.register ss c.left.left.items c.pop.new.self.items c.in-Some.is_left c.len.result (stages_at c.args.stages.now c.left.places.items) (stages_at c.args.stages.now c.put_flagged.new.places.items) c.left.invariant.scans c.in-Some.ensures.items (c.len.ensures ∙ c.pop.new.self.ok.0) c.in_ok-put_flagged.ensures)
