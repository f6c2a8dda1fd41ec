use Rattle.std.proofs.Common.{arith, ◌∙◌, refl}
use Rattle.qs_service_reactor.proofs.Goes.{logs_none}
use Rattle.qs_service_reactor.proofs.Moves.{moves_none, moves_sum}
use Rattle.qs_service_reactor.proofs.table.Table.take_turns.Goals as goal

pub loop-place-init : goal.loop-place-init
loop-place-init g c = record { moves = moves_none _ _ _ _ _ (omega arith) (logs_none _); accepted = refl; len = omega arith; sized = c.args.self.now.sized }

pub loop-place-preserved : goal.loop-place-preserved
loop-place-preserved g c = record {
  moves = moves_sum _ _ _ _ _ _ _ _ _ _ _ _ c.loop-place.invariant.moves c.turn_at.ensures.moves (omega arith);
  accepted = c.turn_at.ensures.accepted ∙ c.loop-place.invariant.accepted;
  len = c.turn_at.ensures.len ∙ c.loop-place.invariant.len;
  sized = c.turn_at.new.self.sized;
}
