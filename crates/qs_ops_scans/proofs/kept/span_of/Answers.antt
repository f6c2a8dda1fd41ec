use Rattle.std.proofs.Common.{ltb, leb, arith, rules}
use Rattle.std.proofs.lemmas.List.Sorted.{IsPartitionPoint-from_clause, IsPartitionedBy-leb, IsPartitionedBy-ltb}
use Rattle.qs_ops_scans.specs.inner.Sides.{side_key}
use Rattle.qs_ops_scans.proofs.Spans.{above_not, below_not}
use Rattle.qs_ops_scans.proofs.kept.span_of.Goals as goal

pub returns : goal.returns
returns c =
    let key = side_key c.args.side in
    let low = IsPartitionPoint-from_clause (λ e. ltb (key e) c.args.key) _ _ c.partition_point-from.ensures.partitioned (IsPartitionedBy-ltb key _ c.args.key c.requires) (λ a r q k. search rules) in
    let high = IsPartitionPoint-from_clause (λ e. leb (key e) c.args.key) _ _ c.partition_point-to.ensures.partitioned (IsPartitionedBy-leb key _ c.args.key c.requires) (λ a r q k. search rules) in
    record {
      before = λ k d h l e. below_not _ _ (low.0 k d (omega arith) h) e;
      past = λ k d h l e. above_not _ _ (high.1 k d h l) e;
    }
