use Rattle.std.proofs.Common.{drop}
use Rattle.qs_plan.specs.inner.Slots.{Puts, stages_at, stages_left}
use Rattle.qs_plan.proofs.order.put_chosen.Given as goal

abbrev pub invariant-loop-at : goal.invariant-loop-at
invariant-loop-at l =
    Puts l.run.register (stages_at l.stages l.initial.places.items) (stages_left (drop l.run.from l.stages) l.initial.left.items) (stages_at l.stages l.places.items) (stages_left (drop l.run.from l.stages) l.left.items)
