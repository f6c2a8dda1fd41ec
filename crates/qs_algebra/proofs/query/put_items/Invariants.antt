use Rattle.std.proofs.Common.{◌≡◌, ◌++◌, take}
use Rattle.std.specs.List.{flat_map}
use Rattle.qs_algebra.specs.Translation as spec
use Rattle.qs_algebra.proofs.query.put_items.Given as goal

abbrev pub invariant-loop-item : goal.invariant-loop-item
invariant-loop-item l = l.steps ≡ l.initial.steps ++ flat_map (spec.item_steps l.names) (take l.item-index l.items)
