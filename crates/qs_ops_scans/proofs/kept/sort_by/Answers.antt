use Rattle.std.proofs.Common.{rules}
use Rattle.std.proofs.lemmas.List.Sorted.{IsNonDecreasingBy-from_sort_by_key}
use Rattle.qs_ops_scans.specs.inner.Sides.{side_key}
use Rattle.qs_ops_scans.proofs.kept.sort_by.Goals as goal

pub returns-clause-order : goal.returns-clause-order
returns-clause-order c = IsNonDecreasingBy-from_sort_by_key (side_key c.args.side) _ c.sort_unstable_by_key.ensures.sorted (λ a r q k. search rules)
