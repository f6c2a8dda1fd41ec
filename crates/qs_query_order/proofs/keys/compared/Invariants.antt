use Rattle.std.proofs.Common.{◌≡◌, drop}
use Rattle.qs_query_order.specs.inner.Keys.{compare_keys}
use Rattle.qs_query_order.proofs.keys.compared.Given as goal

abbrev pub invariant-loop-condition : goal.invariant-loop-condition
invariant-loop-condition l = compare_keys (drop l.condition-index l.conditions) l.a l.b ≡ compare_keys l.conditions l.a-2 l.b-2
