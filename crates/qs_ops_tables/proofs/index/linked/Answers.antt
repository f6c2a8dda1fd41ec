use Rattle.std.proofs.Common.{◌∙◌, sym}
use Rattle.qs_ops_tables.proofs.Keyed.{index_back}
use Rattle.qs_ops_tables.proofs.index.linked.Goals as goal

pub loop-i-preserved : goal.loop-i-preserved
loop-i-preserved c =
    index_back c.args.key.items c.args.rows.now c.mask_for-mask.result c.loop-i.heads.items c.loop-i.links.items c.loop-i.i c.in-Some.hash c.index-rows-i.result c.index.result.now
    c.loop-i.invariant c.loop-i-test.true c.index-rows-i.is (rw (c.as_slice.ensures.value, c.width.ensures) at (sym c.hash_of.ensures ∙ c.in-Some.is)) c.index.ensures
