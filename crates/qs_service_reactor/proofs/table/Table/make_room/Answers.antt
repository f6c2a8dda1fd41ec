use Rattle.std.proofs.Common.{arith}
use Rattle.qs_service_reactor.proofs.Goes.{logs_none}
use Rattle.qs_service_reactor.proofs.Moves.{moves_none}
use Rattle.qs_service_reactor.proofs.table.Table.make_room.Goals as goal

pub returns-then-not-is_wanted-clause-moves : goal.returns-then-not-is_wanted-clause-moves
returns-then-not-is_wanted-clause-moves g c = moves_none _ _ _ _ _ (omega arith) (logs_none _)

pub returns-in_err-self-in-Err-clause-moves : goal.returns-in_err-self-in-Err-clause-moves
returns-in_err-self-in-Err-clause-moves g c = moves_none _ _ _ _ _ (omega arith) c.is_waiting.ensures

pub returns-in-Ok-false-clause-moves : goal.returns-in-Ok-false-clause-moves
returns-in-Ok-false-clause-moves g c = moves_none _ _ _ _ _ (omega arith) c.is_waiting.ensures

pub returns-in_ok-self-in-Err-clause-moves : goal.returns-in_ok-self-in-Err-clause-moves
returns-in_ok-self-in-Err-clause-moves g c = moves_none _ _ _ _ _ (omega arith) c.is_waiting.ensures
