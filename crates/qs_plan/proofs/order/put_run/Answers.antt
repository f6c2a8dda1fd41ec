use Rattle.std.proofs.Common.{[], drop}
use Rattle.qs_plan.specs.inner.Slots.{stages_at, stages_left}
use Rattle.qs_plan.proofs.Taking.{more_put, run_put, run_scans}
use Rattle.qs_plan.proofs.order.put_run.Goals as goal

pub put_chosen-requires : goal.put_chosen-requires
put_chosen-requires g c = run_scans c.args.run.register (drop c.args.run.from c.args.stages.now) c.in_ok-left.left.items c.args.run.count c.in_ok-left.ensures c.requires.scans

pub put_left-requires : goal.put_left-requires
put_left-requires g c = c.in_ok-put_chosen.ensures.scans

pub returns : goal.returns
returns g c =
    let ss = drop c.args.run.from c.args.stages.now in
    run_put c.args.run.register ss c.in_ok-left.left.items c.args.run.count (stages_at c.args.stages.now c.args.places.now.items) (stages_at c.args.stages.now c.put_left.new.places.items) c.in_ok-left.ensures
    (more_put c.args.run.register (stages_at c.args.stages.now c.args.places.now.items) (stages_left ss c.in_ok-left.left.items) (stages_at c.args.stages.now c.put_chosen.new.places.items) (stages_left ss c.put_chosen.new.left.items) (stages_at c.args.stages.now c.put_left.new.places.items) (stages_left ss []) c.in_ok-put_chosen.ensures c.in_ok-put_left.ensures)
