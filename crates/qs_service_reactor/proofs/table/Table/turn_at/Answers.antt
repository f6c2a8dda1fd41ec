use Rattle.std.proofs.Common.{◌<◌, arith, length, refl}
use Rattle.std.proofs.lemmas.Option.{slice_get_read}
use Rattle.qs_service_reactor.proofs.Goes.{logs_none}
use Rattle.qs_service_reactor.proofs.Moves.{moves_none, moves_turn}
use Rattle.qs_service_reactor.proofs.table.Table.turn_at.Goals as goal

pub returns-then-not-index-clause-moves : goal.returns-then-not-index-clause-moves
returns-then-not-index-clause-moves g c = moves_none _ _ _ _ _ (omega arith) (logs_none _)

pub returns-clause-moves : goal.returns-clause-moves
returns-clause-moves g c =
    let lt : c.args.place < length c.args.self.now.connections.items = let at = c.requires in omega arith in
    moves_turn _ _ _ _ _ _ _ _ (slice_get_read _ _ _ _ refl lt c.index-2.ensures) lt c.take_turn-goes_on.ensures.turns
