use Rattle.std.proofs.Common.{[], get_or, refl, arith}
use Rattle.qs_index.proofs.Unions.{IsUnion-more}
use Rattle.qs_index.proofs.order.Order.insert_each.Goals as goal

pub loop-entry-preserved : goal.loop-entry-preserved
loop-entry-preserved c = record {
  spare = omega (arith, c.insert_from-edited.ensures.spare, c.loop-entry.invariant.spare);
  union = IsUnion-more c.args.self.now.entries c.args.entries.now c.loop-entry.self.entries c.insert_from-edited.new.self.entries c.loop-entry.entry-index (get_or c.args.entries.now c.loop-entry.entry-index []) c.insert_from-edited.result.is_done (omega (arith, c.loop-entry-test.true)) refl c.loop-entry.invariant.union c.insert_from-edited.ensures.added c.insert_from-edited.ensures.kept c.insert_from-edited.ensures.stood c.insert_from-edited.ensures.ascending;
}
