use Rattle.qs_ops_walk.proofs.PassedRows.{last_skips}
use Rattle.qs_ops_walk.proofs.alike.pass_alike.Goals as goal

pub returns-then-are_named-clause-skips : goal.returns-then-are_named-clause-skips
returns-then-are_named-clause-skips c =
    let a = c.args in
    last_skips a.width a.walk.now.places.items a.columns.now a.row.now a.walk.now.levels.items c.pass_last.new.levels.items c.requires (c.are_named.ensures c.if-are_named.true) c.pass_last.ensures
