use Rattle.std.proofs.Common.{map, ◌∙◌}
use Rattle.qs_service_replay.specs.inner.ScriptEvents.{event_of}
use Rattle.quads.proofs.Replays.{ran_short, ran_out_of_memory}
use Rattle.quads.proofs.replay.run_events.Goals as goal

pub returns-in-SinkFailed : goal.returns-in-SinkFailed
returns-in-SinkFailed g c =
    ran_short c.args.service.now (map event_of c.args.events.now) _ _ _ _ c.replay-replayed.new.connections c.replay-replayed.result.written c.replay-replayed.result.end c.in-SinkFailed.is c.replay-replayed.ensures.replayed

pub returns-in-OutOfMemory : goal.returns-in-OutOfMemory
returns-in-OutOfMemory g c =
    ran_out_of_memory c.args.service.now (map event_of c.args.events.now) _ _ _ _ _ _ c.replay-replayed.new.connections c.replay-replayed.result.written c.replay-replayed.result.end c.put-ran.result c.as_bytes.result.now
    c.in-OutOfMemory.is (c.as_bytes.ensures.value ∙ c.out_of_memory_line.ensures) c.replay-replayed.ensures.replayed c.put-ran.ensures
