use Rattle.std.proofs.Common.{[], take}
use Rattle.qs_plan.specs.inner.Certain.{SameFrom}
use Rattle.qs_plan.proofs.parts.+parted.Given as goal

abbrev pub invariant-parted_stages-loop-at : goal.invariant-parted_stages-loop-at
invariant-parted_stages-loop-at g l = SameFrom l.size [] l.done (take l.at-counter l.stages)
