use Rattle.std.proofs.Common.{◌≡◌, take}
use Rattle.std.specs.List.{fold}
use Rattle.qs_syntax_scope.specs.inner.Selected as spec
use Rattle.qs_syntax_scope.proofs.selected.add_items.Given as goal

abbrev pub invariant-loop-item : goal.invariant-loop-item
invariant-loop-item l = l.met ≡ fold spec.add_item l.initial.met (take l.item-index l.items)
