use Rattle.std.proofs.Common.{◌≡◌, arith, ◌+◌, ◌<◌, length, subst, sym, List, ℕ}
use Rattle.qs_service_replay.specs.inner.ScriptEvents.{event_of}
use Rattle.qs_service_replay.specs.Replay.{Tells}
use Rattle.qs_service_replay.specs.declared.script_event.ScriptEvent.{ScriptEvent}
use Rattle.qs_service_replay.proofs.Runs.{goes_on, fails, wants}
use Rattle.qs_service_replay.proofs.run.replay.Goals as goal

pub returns-in-Err-clause-replayed : goal.returns-in-Err-clause-replayed
returns-in-Err-clause-replayed g c =
    wants g.M.Meaning.carries _ c.loop-i.connections c.told.new.connections c.args.events.now c.loop-i.i c.index-events-i.result c.loop-i-test.true _ _ _ _ _ c.loop-i.invariant.0
    (subst (λ (e : ScriptEvent). (line : List ℕ) × Tells g.M.Meaning.carries c.loop-i.connections (c.loop-i.i + 1) (event_of e) c.told.new.connections line) c.index-events-i.is c.in-Err.ensures)

pub returns-then-taken-bytes-clause-replayed : goal.returns-then-taken-bytes-clause-replayed
returns-then-taken-bytes-clause-replayed g c =
    let step : Tells g.M.Meaning.carries c.loop-i.connections (c.loop-i.i + 1) (event_of c.index-events-i.result) c.told.new.connections c.as_bytes-bytes.result.now =
    subst (λ (l : List ℕ). Tells g.M.Meaning.carries c.loop-i.connections (c.loop-i.i + 1) (event_of c.index-events-i.result) c.told.new.connections l) (sym c.as_bytes-bytes.ensures.value) c.in-Ok.ensures in
    let short : c.put_all-taken.result < length c.as_bytes-bytes.result.now = omega arith in
    fails g.M.Meaning.carries _ c.loop-i.connections c.told.new.connections c.args.events.now c.loop-i.i c.index-events-i.result c.loop-i-test.true _ _ _ _ _ _ c.loop-i.written c.put_all-taken.result c.as_bytes-bytes.result.now c.loop-i.invariant.0
    (subst (λ (e : ScriptEvent). Tells g.M.Meaning.carries c.loop-i.connections (c.loop-i.i + 1) (event_of e) c.told.new.connections c.as_bytes-bytes.result.now) c.index-events-i.is step) c.put_all-taken.ensures.taken short (c.put_all-taken.ensures.short short)

pub loop-i-preserved : goal.loop-i-preserved
loop-i-preserved g c =
    let step : Tells g.M.Meaning.carries c.loop-i.connections (c.loop-i.i + 1) (event_of c.index-events-i.result) c.told.new.connections c.as_bytes-bytes.result.now =
    subst (λ (l : List ℕ). Tells g.M.Meaning.carries c.loop-i.connections (c.loop-i.i + 1) (event_of c.index-events-i.result) c.told.new.connections l) (sym c.as_bytes-bytes.ensures.value) c.in-Ok.ensures in
    let whole : c.put_all-taken.result ≡ length c.as_bytes-bytes.result.now = omega (arith, c.put_all-taken.ensures.bound) in (
      goes_on g.M.Meaning.carries _ c.loop-i.connections c.told.new.connections c.args.events.now c.loop-i.i c.index-events-i.result c.loop-i-test.true _ _ _ _ _ _ c.loop-i.written c.put_all-taken.result c.as_bytes-bytes.result.now c.loop-i.invariant.0
          (subst (λ (e : ScriptEvent). Tells g.M.Meaning.carries c.loop-i.connections (c.loop-i.i + 1) (event_of e) c.told.new.connections c.as_bytes-bytes.result.now) c.index-events-i.is step) c.put_all-taken.ensures.taken whole (c.put_all-taken.ensures.whole whole),
      omega (arith, c.loop-i.invariant.1, c.put_all-taken.type_inv),
    )
