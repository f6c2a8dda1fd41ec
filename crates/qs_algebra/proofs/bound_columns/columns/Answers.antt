use Rattle.std.proofs.Common.{refl}
use Rattle.qs_algebra.proofs.ColumnLaws.{column_more}
use Rattle.qs_algebra.proofs.bound_columns.columns.Goals as goal

pub loop-at-preserved : goal.loop-at-preserved
loop-at-preserved c =
    column_more c.args.variables.now c.loop-at.at c.args.width 0 _ c.loop-at.flags.items c.flag.new.flags.items c.loop-at-test.true refl c.loop-at.invariant c.flag.ensures
