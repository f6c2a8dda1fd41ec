use Rattle.qs_service_reactor.proofs.Goes.{logs_none}
use Rattle.qs_service_reactor.proofs.Moves.{turns_none, turns_then}
use Rattle.qs_service_reactor.proofs.connection.Connection.take_steps.Goals as goal

pub loop-init : goal.loop-init
loop-init g c = turns_none _ _ _ _ _ (logs_none _)

pub returns-then-ne : goal.returns-then-ne
returns-then-ne g c = record { turns = turns_then _ _ _ _ _ _ _ _ _ _ c.loop.invariant c.take_step-turn.ensures.turns }

pub loop-preserved : goal.loop-preserved
loop-preserved g c = turns_then _ _ _ _ _ _ _ _ _ _ c.loop.invariant c.take_step-turn.ensures.turns
