use Rattle.std.proofs.Common.{arith, ◌∙◌}
use Rattle.qs_service_reactor.proofs.Goes.{logs_none}
use Rattle.qs_service_reactor.proofs.Moves.{moves_none, moves_sum}
use Rattle.qs_service_reactor.proofs.table.Table.accept_all.Goals as goal

pub loop-place-init : goal.loop-place-init
loop-place-init g c = record { moves = moves_none _ _ _ _ _ (omega arith) (logs_none _); more = omega arith; most = c.requires; len = omega arith; sized = c.args.self.now.sized }

pub returns-in_err-accept_at-clause-moves : goal.returns-in_err-accept_at-clause-moves
returns-in_err-accept_at-clause-moves g c =
    let before = c.loop-place.invariant.more in
    let more = c.accept_at.ensures.more in
    moves_sum _ _ _ _ _ _ _ _ _ _ _ _ c.loop-place.invariant.moves c.accept_at.ensures.moves (omega arith)

pub loop-place-preserved : goal.loop-place-preserved
loop-place-preserved g c =
    let before = c.loop-place.invariant.more in
    let more = c.accept_at.ensures.more in
    record {
      moves = moves_sum _ _ _ _ _ _ _ _ _ _ _ _ c.loop-place.invariant.moves c.accept_at.ensures.moves (omega arith);
      more = omega arith;
      most = omega arith;
      len = c.accept_at.ensures.len ∙ c.loop-place.invariant.len;
      sized = c.accept_at.new.self.sized;
    }
