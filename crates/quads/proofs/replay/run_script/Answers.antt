use Rattle.std.proofs.Common.{List, map, subst, sym}
use Rattle.qs_service_replay.specs.inner.ScriptEvents.{event_of}
use Rattle.qs_service_replay.specs.Script.{IsScript}
use Rattle.qs_service_replay.specs.inner.Script.{IsScriptFault}
use Rattle.qs_service_replay.specs.declared.script.ScriptFault.{ScriptFault}
use Rattle.qs_service_replay.specs.declared.script_event.ScriptEvent.{ScriptEvent}
use Rattle.quads.specs.Due.{line, IsDueOfEvents}
use Rattle.quads.specs.inner.Outcomes.{script_line}
use Rattle.quads.specs.inner.Replay.{IsBegunOfEvents, IsScriptDue, IsScriptBegun}
use Rattle.quads.proofs.Replays.{refused, runs_on, script_due, script_begun, no_script, no_memory, begun_of_due, memory_line}
use Rattle.quads.proofs.replay.run_script.Goals as goal

pub returns-in-Ok : goal.returns-in-Ok
returns-in-Ok g c =
    let old = c.args.service.now in
    let script = c.args.script.now in
    let events = map event_of c.as_slice.result.now in
    let is : IsScript script events = subst (λ (l : List ScriptEvent). IsScript script (map event_of l)) (sym c.as_slice.ensures.value) c.in-Ok.ensures in
    runs_on (IsDueOfEvents old events) (IsBegunOfEvents old events) _ _ _ _ c.run_events.result (IsScriptDue old script) (IsScriptBegun old script) (script_due old script events is) (script_begun old script events is) c.run_events.ensures

pub returns-in-Err-Line : goal.returns-in-Err-Line
returns-in-Err-Line g c =
    let old = c.args.service.now in
    let script = c.args.script.now in
    let other = subst (λ (f : ScriptFault). IsScriptFault script f) c.in-Err-Line.field-0-is c.in-Err-Line.ensures in
    refused (IsScriptDue old script) (IsScriptBegun old script) _ _ _ _ c.put_refusal.result (line (script_line c.in-Err-Line.number)) (no_script old script c.in-Err-Line.number other) (no_memory old script) (begun_of_due old script) c.put_refusal.ensures

pub returns-in-Err-Memory : goal.returns-in-Err-Memory
returns-in-Err-Memory g c =
    let old = c.args.service.now in
    let script = c.args.script.now in
    refused (IsScriptDue old script) (IsScriptBegun old script) _ _ _ _ c.put_refusal-in-Err-Memory.result memory_line (no_memory old script) (no_memory old script) (begun_of_due old script) c.put_refusal-in-Err-Memory.ensures
