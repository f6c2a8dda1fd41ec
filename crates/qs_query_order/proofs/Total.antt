-- The order of lists of keys is total.
use Rattle.std.proofs.Common.{refl}
use Rattle.std.proofs.lemmas.Cmp.{on_total, then_total, back_total}
use Rattle.std.specs.Cmp.{IsTotalOrder}
use Rattle.std.specs.Prelude.{List, [], ◌∷◌}
use Rattle.qs_syntax_tree.specs.declared.query.Direction.{Direction}
use Rattle.qs_syntax_tree.specs.declared.query.Direction.TheVariants.{Ascending, Descending}
use Rattle.qs_expr_values.specs.Sorting as of
use Rattle.qs_query_order.specs.inner.Keys.{first_key, behind_first, compare_keys}
use Rattle.qs_query_order.specs.Order.{directed}
use Rattle.qs_query_order.specs.declared.condition.OrderCondition.{OrderCondition}

directed_total : IsTotalOrder of.compare_keys → (d : Direction) → IsTotalOrder (directed d)
directed_total t Ascending = t
directed_total t Descending = back_total t

pub lists_total : IsTotalOrder of.compare_keys → (cs : List OrderCondition) → IsTotalOrder (compare_keys cs)
lists_total t [] = record { antisymm = λ x y. refl; trans = λ x y z p q. p; congr = λ x y z h. refl }
lists_total t (c ∷ cs) = then_total (on_total first_key (directed_total t c.direction)) (on_total behind_first (lists_total t cs))
