use Rattle.std.proofs.Common.{refl}
use Rattle.qs_ops_walk.proofs.PassedRows.{passes_last}
use Rattle.qs_ops_walk.proofs.alike.pass_last.Goals as goal

pub returns-in-Triple : goal.returns-in-Triple
returns-in-Triple c =
    passes_last c.args.levels.now.items c.args.levels.now.len c.args.levels.now.ok.0 (c.in-Some.ensures.variant.0 refl) c.in-Some.level.now c.in-Some.ensures.value c.args.columns.now c.args.row.now c.in-Triple.rows c.skip_alike.new.self c.in-Triple.is c.skip_alike.ensures
