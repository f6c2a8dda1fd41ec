-- The lines before what is left are read.
use Rattle.std.proofs.Common.{length, map}
use Rattle.qs_service_replay.specs.inner.ScriptEvents.{event_of}
use Rattle.qs_service_replay.specs.inner.Told.{IsReadTo}
use Rattle.qs_service_replay.proofs.script.read_script.Given as goal

abbrev pub invariant-loop-rest : goal.invariant-loop-rest
invariant-loop-rest l = IsReadTo l.fn.text (map event_of l.events.items) l.rest

abbrev pub decreases-loop-rest : goal.decreases-loop-rest
decreases-loop-rest l = length l.rest
