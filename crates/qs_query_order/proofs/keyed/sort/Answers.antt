use Rattle.std.proofs.Common.{rules}
use Rattle.std.proofs.lemmas.List.Sorted.{ranks_by}
use Rattle.std.proofs.lemmas.Fn.{always_returns_same}
use Rattle.qs_query_order.specs.inner.Keyed.{is_lower}
use Rattle.qs_query_order.proofs.Total.{lists_total}
use Rattle.qs_query_order.proofs.keyed.sort.Goals as goal

pub returns-clause-order : goal.returns-clause-order
returns-clause-order g c =
    c.sort_unstable_by.ensures.sorted (is_lower c.args.conditions.now)
    (ranks_by (lists_total c.keys_are_ordered.ensures c.args.conditions.now) (λ x. x.keys.items))
    (always_returns_same _ _ _ (λ a r f' q. search rules))
