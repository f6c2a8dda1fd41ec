use Rattle.std.proofs.Common.{arith}
use Rattle.qs_service_reactor.proofs.Moves.{moves_sum}
use Rattle.qs_service_reactor.proofs.reactor.take_round.Goals as goal

pub returns-in_err-dropped-clause-moves : goal.returns-in_err-dropped-clause-moves
returns-in_err-dropped-clause-moves g c =
    moves_sum 0 _ _ _ _ _ _ _ _ _ _ _ (moves_sum 0 0 0 _ _ _ _ _ _ _ _ _ c.take_turns.ensures.moves c.drop_due.ensures.moves (omega arith)) c.make_room.ensures.moves (omega arith)

pub returns-clause-moves : goal.returns-clause-moves
returns-clause-moves g c =
    let turned = c.take_turns.ensures.accepted in
    let late = c.drop_due.ensures.accepted in
    let made = c.make_room.ensures.accepted in
    let before = moves_sum 0 0 0 _ _ _ _ _ _ _ _ _ (moves_sum 0 0 0 _ _ _ _ _ _ _ _ _ c.take_turns.ensures.moves c.drop_due.ensures.moves (omega arith)) c.make_room.ensures.moves (omega arith) in
    moves_sum _ _ _ _ _ _ _ _ _ _ _ _ before c.accept_all.ensures.moves (omega arith)
