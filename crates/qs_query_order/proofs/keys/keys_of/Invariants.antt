use Rattle.std.proofs.Common.{◌≡◌, take}
use Rattle.qs_query_order.specs.inner.Keys.{keys_of}
use Rattle.qs_query_order.proofs.keys.keys_of.Given as goal

abbrev pub invariant-loop-condition : goal.invariant-loop-condition
invariant-loop-condition g l = l.keys.items ≡ keys_of (take l.condition-index l.conditions) (g.B.Bindings.solution l.row)
