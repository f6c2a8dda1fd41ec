use Rattle.std.proofs.Common.{List, subst, sym}
use Rattle.std.specs.List.{AllByRecursion}
use Rattle.qs_ops_walk.specs.inner.Alike.{KeepsAll, SkipsAlike}
use Rattle.qs_ops_walk.proofs.PassedRows.{skips_both}
use Rattle.qs_ops_walk.proofs.alike.skip_alike.Goals as goal

pub returns-clause-skips : goal.returns-clause-skips
returns-clause-skips c =
    let a = c.args in
    let mid = c.end_alike.new.walk.levels.items in
    let now = c.pass_alike.new.walk.levels.items in
    let more : SkipsAlike a.width a.walk.now.places.items a.columns.now a.row.now mid now = subst (λ ps. SkipsAlike a.width ps.items a.columns.now a.row.now mid now) c.end_alike.ensures.places c.pass_alike.ensures.skips in
    skips_both a.width a.walk.now.places.items a.columns.now a.row.now a.walk.now.levels.items mid now c.end_alike.ensures.skips more
