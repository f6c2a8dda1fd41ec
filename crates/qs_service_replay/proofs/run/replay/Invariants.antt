-- The events so far were carried out, and the sink took what they write.
use Rattle.std.proofs.Common.{◌≤◌, ◌*◌, ◌^◌}
use Rattle.qs_service_replay.proofs.Runs.{HasRun}
use Rattle.qs_service_replay.proofs.run.replay.Given as goal

abbrev pub invariant-loop-i : goal.invariant-loop-i
invariant-loop-i g l = HasRun g.M.Meaning.carries l.initial.connections l.i l.events l.connections (g.S.Sink.taken l.initial.out) (g.S.Sink.taken l.out) (g.S.Sink.faults l.initial.out) (g.S.Sink.faults l.out) l.written
    × (l.written ≤ l.i * 2 ^ 64)
