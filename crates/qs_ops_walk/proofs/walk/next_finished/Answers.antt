use Rattle.std.proofs.Common.{refl}
use Rattle.qs_ops_walk.proofs.Finished.{finished_next}
use Rattle.qs_ops_walk.proofs.walk.next_finished.Goals as goal

pub returns-in_ok-row-in-Triple : goal.returns-in_ok-row-in-Triple
returns-in_ok-row-in-Triple c =
    finished_next c.args.levels.now.items c.args.levels.now.len c.args.levels.now.ok.0 (c.in-Some.ensures.variant.0 refl) c.in-Some.level.now c.in-Some.ensures.value c.in_ok-row-in-Triple.row c.in-Triple.rows c.next.new.self
    c.if-level-ne0.false c.in-Triple.is c.in_ok-row-in-Triple.ensures.gives
