use Rattle.std.proofs.Common.{◌≡◌, ◌+◌}
use Rattle.qs_plan.specs.inner.Slots.{Cut}
use Rattle.qs_plan.proofs.order.places_of.Given as goal

abbrev pub invariant-loop-at : goal.invariant-loop-at
invariant-loop-at g l = record { within : l.run.from + l.run.count ≡ l.at; cut : Cut l.stages l.places.items l.run.register l.run.from l.run.count }
