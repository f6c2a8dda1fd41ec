use Rattle.std.proofs.Common.{take}
use Rattle.qs_query_forms.specs.inner.Placed.{ArePlaced}
use Rattle.qs_query_forms.proofs.placed.placed.Given as goal

abbrev pub invariant-loop-condition : goal.invariant-loop-condition
invariant-loop-condition l = ArePlaced l.columns (take l.condition-index l.conditions) l.all.items
