use Rattle.std.proofs.Common.{arith}
use Rattle.qs_service_reactor.proofs.Goes.{logs_none}
use Rattle.qs_service_reactor.proofs.Moves.{moves_none}
use Rattle.qs_service_reactor.proofs.table.Table.accept_at.Goals as goal

pub returns-then-not-is_free-clause-moves : goal.returns-then-not-is_free-clause-moves
returns-then-not-is_free-clause-moves g c = moves_none _ _ _ _ _ (omega arith) (logs_none _)

pub returns-in_err-self-in-Err-clause-moves : goal.returns-in_err-self-in-Err-clause-moves
returns-in_err-self-in-Err-clause-moves g c = moves_none _ _ _ _ _ (omega arith) c.in-Err.ensures

pub returns-in_ok-self-in-Err-clause-moves : goal.returns-in_ok-self-in-Err-clause-moves
returns-in_ok-self-in-Err-clause-moves g c = moves_none _ _ _ _ _ (omega arith) c.in-Err.ensures
