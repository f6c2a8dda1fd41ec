use Rattle.std.proofs.Common.{◌≡◌, map, take}
use Rattle.qs_query_forms.specs.Selection.{item_variable}
use Rattle.qs_query_forms.proofs.selection.item_variables.Given as goal

abbrev pub invariant-loop-item : goal.invariant-loop-item
invariant-loop-item l = l.variables ≡ map item_variable (take l.item-index l.items)
