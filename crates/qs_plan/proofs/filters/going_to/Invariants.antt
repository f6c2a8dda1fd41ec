use Rattle.std.proofs.Common.{◌≡◌, take}
use Rattle.qs_plan.specs.inner.Places.{placed_at}
use Rattle.qs_plan.proofs.filters.going_to.Given as goal

abbrev pub invariant-loop-going : goal.invariant-loop-going
invariant-loop-going l = l.found ≡ placed_at l.place (take l.going-index l.all)
