use Rattle.std.proofs.Common.{arith}
use Rattle.qs_update.proofs.DataRun.{deletion_ok}
use Rattle.qs_update.proofs.data.put_deletion.Goals as goal

pub returns-clause-effect : goal.returns-clause-effect
returns-clause-effect c =
    deletion_ok c.args.blocks.now c.args.effect.now c.put_quads_to_delete.new.quads (omega arith) c.in_ok-put_quads_to_delete.ensures
