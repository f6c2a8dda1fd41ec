use Rattle.std.proofs.Common.{rules}
use Rattle.qs_ops_tables.proofs.Keyed.{passes_further}
use Rattle.qs_ops_tables.proofs.index.row_from.Goals as goal

pub loop-row-preserved : goal.loop-row-preserved
loop-row-preserved c =
    let x = c.args.index.now in
    let f = c.in-Some.ensures.lookup in
    let g = c.in-Some-Some.ensures.lookup in
    passes_further x.key.items c.args.rows.now x.mask x.heads.items x.links.items c.args.hash c.in-Some-Some.hash c.args.at c.loop-row.place c.after-next.result c.in-Some-Some.link.now
    c.requires c.loop-row.invariant (search rules) (search rules) (search rules) (search rules) c.if-link-hash.false c.after-next.ensures
