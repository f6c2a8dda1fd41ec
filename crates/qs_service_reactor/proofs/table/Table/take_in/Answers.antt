use Rattle.std.proofs.Common.{◌<◌, arith, length}
use Rattle.qs_service_reactor.proofs.Goes.{logs_none}
use Rattle.qs_service_reactor.proofs.Moves.{moves_joined, moves_refused}
use Rattle.qs_service_reactor.proofs.table.Table.take_in.Goals as goal

pub returns-then-join-clause-moves : goal.returns-then-join-clause-moves
returns-then-join-clause-moves g c =
    let lt : c.args.place < length c.args.self.now.connections.items = let at = c.requires.place in omega arith in
    moves_joined _ _ _ _ _ _ _ lt c.new.ensures c.if-join.ensures.step c.if-join.ensures.keeps (logs_none _)

pub returns-else-join-clause-moves : goal.returns-else-join-clause-moves
returns-else-join-clause-moves g c = moves_refused _ _ _ _ _ _ c.if-join.ensures.step c.if-join.ensures.keeps c.close.ensures
