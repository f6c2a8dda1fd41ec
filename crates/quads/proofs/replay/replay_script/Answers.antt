use Rattle.std.proofs.Common.{Result, subst}
use Rattle.qs_service.specs.State.{State}
use Rattle.quads.specs.inner.Refusal.{refusal_text}
use Rattle.quads.specs.inner.Service.{BecomesService}
use Rattle.quads.specs.declared.refusal.Refusal.{Refusal}
use Rattle.quads.specs.inner.Replay.{IsScriptDue, IsScriptBegun, IsReplayDue, IsReplayBegun}
use Rattle.quads.proofs.Replays.{refused, runs_on, replay_due, replay_begun, refusal_due, memory_due, begun_of_replay}
use Rattle.quads.proofs.replay.replay_script.Goals as goal

pub returns-in-Ok : goal.returns-in-Ok
returns-in-Ok g c = λ choice file became.
    let script = c.args.script.now in
    let state = c.in-Ok.service in
    let loaded = subst (λ (r : Result State Refusal). BecomesService choice file r) c.in-Ok.is became in
    runs_on (IsScriptDue state script) (IsScriptBegun state script) _ _ _ _ c.run_script-ran.result (IsReplayDue choice file script) (IsReplayBegun choice file script) (replay_due choice file script loaded.0 state loaded.2 loaded.1) (replay_begun choice file script loaded.0 state loaded.2 loaded.1)
    c.run_script-ran.ensures

pub returns-in-Err : goal.returns-in-Err
returns-in-Err g c = λ choice file became.
    let script = c.args.script.now in
    let is = subst (λ (r : Result State Refusal). BecomesService choice file r) c.in-Err.is became in
    refused (IsReplayDue choice file script) (IsReplayBegun choice file script) _ _ _ _ c.put_refusal.result (refusal_text c.in-Err.refusal) (refusal_due choice file script c.in-Err.refusal is) (memory_due choice file script) (begun_of_replay choice file script) c.put_refusal.ensures
