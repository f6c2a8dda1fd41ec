use Rattle.std.proofs.Common.{rules, arith, [], None, refl}
use Rattle.qs_service_reactor.proofs.Goes.{logs_none}
use Rattle.qs_service_reactor.proofs.Moves.{moves_none, moves_sum, moves_quiet, moves_from, few_of, serves_of}
use Rattle.qs_service_reactor.proofs.reactor.serve_events.Goals as goal

pub returns-in_err-table : goal.returns-in_err-table
returns-in_err-table g c = record {
  acts = [];
  out = λ _. None;
  run = (refl, refl);
  few = few_of c.args.connections 0 0 c.most_of-most.result c.most_of-most.ensures (omega arith) refl;
  all = search rules;
  logged = logs_none _;
  ended = search rules;
}

pub loop-init : goal.loop-init
loop-init g c = let none = c.in_ok-table.ensures.accepted in record { moves = moves_none _ _ _ _ _ (omega arith) (logs_none _); most = omega arith }

pub returns-in_err-waited : goal.returns-in_err-waited
returns-in_err-waited g c = serves_of _ _ _ _ _ _ _ _ _ _ c.in_ok-table.ensures.free (moves_quiet _ _ _ _ _ _ _ _ c.loop.invariant.moves c.wait.ensures) c.most_of-most.ensures c.loop.invariant.most (search rules) (search rules)

pub returns-in_err-take_round : goal.returns-in_err-take_round
returns-in_err-take_round g c =
    let noted = c.note.ensures.accepted in
    let more = c.take_round.ensures.more in
    let before = moves_quiet _ _ _ _ _ _ _ _ c.loop.invariant.moves c.wait.ensures in
    let after = moves_from _ _ _ _ _ _ _ _ c.note.ensures.connections c.take_round.ensures.moves in
    serves_of _ _ _ _ _ _ _ _ _ _ c.in_ok-table.ensures.free (moves_sum _ _ c.take_round.new.table.accepted _ _ _ _ _ _ _ _ _ before after (omega arith)) c.most_of-most.ensures c.take_round.ensures.most (search rules) (search rules)

pub loop-preserved : goal.loop-preserved
loop-preserved g c =
    let noted = c.note.ensures.accepted in
    let more = c.take_round.ensures.more in
    let before = moves_quiet _ _ _ _ _ _ _ _ c.loop.invariant.moves c.wait.ensures in
    let after = moves_from _ _ _ _ _ _ _ _ c.note.ensures.connections c.take_round.ensures.moves in
    record { moves = moves_sum _ _ _ _ _ _ _ _ _ _ _ _ before after (omega arith); most = c.take_round.ensures.most }

pub returns-then-is_done : goal.returns-then-is_done
returns-then-is_done g c = serves_of _ _ _ _ _ _ _ _ _ _ c.in_ok-table.ensures.free c.loop.invariant.moves c.most_of-most.ensures c.loop.invariant.most (search rules) (search rules)

pub returns : goal.returns
returns g c = serves_of _ _ _ _ _ _ _ _ _ _ c.in_ok-table.ensures.free c.loop.invariant.moves c.most_of-most.ensures c.loop.invariant.most tt tt
