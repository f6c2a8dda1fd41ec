use Rattle.std.proofs.Common.{arith}
use Rattle.qs_service_reactor.proofs.Moves.{moves_sum}
use Rattle.qs_service_reactor.proofs.table.Table.drop_silent.Goals as goal

pub returns-clause-moves : goal.returns-clause-moves
returns-clause-moves g c = moves_sum _ _ _ _ _ _ _ _ _ _ _ _ c.drop_due-silent.ensures.moves c.drop_due.ensures.moves (omega arith)
