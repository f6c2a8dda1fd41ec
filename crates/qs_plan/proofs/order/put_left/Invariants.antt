use Rattle.std.proofs.Common.{drop, length}
use Rattle.qs_plan.specs.inner.Slots.{Puts, stages_at, stages_left}
use Rattle.qs_plan.proofs.order.put_left.Given as goal

abbrev pub invariant-left : goal.invariant-left
invariant-left l =
    Puts l.run.register (stages_at l.stages l.initial.places.items) (stages_left (drop l.run.from l.stages) l.initial.left.items) (stages_at l.stages l.places.items) (stages_left (drop l.run.from l.stages) l.left.items)

abbrev pub decreases-left : goal.decreases-left
decreases-left l = length l.left.items
