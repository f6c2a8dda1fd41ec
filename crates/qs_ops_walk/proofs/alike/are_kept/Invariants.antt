use Rattle.std.proofs.Common.{take}
use Rattle.std.specs.List.{AllByRecursion}
use Rattle.qs_ops_walk.specs.declared.work.Place.{Place}
use Rattle.qs_ops_walk.specs.inner.Alike.{KeepsAll}
use Rattle.qs_ops_walk.proofs.alike.are_kept.Given as goal

abbrev pub invariant-loop-place : goal.invariant-loop-place
invariant-loop-place l = AllByRecursion (λ (p : Place). KeepsAll l.columns p.instr.stage) (take l.place-index l.places)
