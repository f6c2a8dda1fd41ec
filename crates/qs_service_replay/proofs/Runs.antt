-- A run goes on by one step.
use Rattle.std.proofs.Common.{◌≡◌, ◌∙◌, ap, sym, subst, refl, Option, None, Some, ℕ, ◌+◌, ◌<◌, List, [], ◌∷◌, ◌++◌, length, map, take, drop, get_or, arith, append_assoc, length-append}
use Rattle.std.proofs.lemmas.List.{map-append, length-map, length-take, take_more, take_all, take-append-drop, append-nil}
use Rattle.std.proofs.Math.Seq.{take-append-add}
use Rattle.std.specs.Io.KnownBytes.{Appends}
use Rattle.qs_terms.specs.Device.{one_more}
use Rattle.qs_service_connections.specs.Meaning.{RequestMeaning}
use Rattle.qs_service_connections.specs.State.{State}
use Rattle.qs_service_connections.specs.Step.{Event}
use Rattle.qs_service_replay.specs.inner.ScriptEvents.{event_of}
use Rattle.qs_service_replay.specs.Replay.{Tells, Replays}
use Rattle.qs_service_replay.specs.Replayed.{StopsAt}
use Rattle.qs_service_replay.specs.inner.Replayed.{IsReplayed}
use Rattle.qs_service_replay.specs.declared.script_event.ScriptEvent.{ScriptEvent}
use Rattle.qs_service_replay.specs.declared.run.ReplayEnd.TheVariants.{SinkFailed, OutOfMemory}

replays_append : {S : Type 0} (carries : RequestMeaning S) (old mid new : State S) (n k : ℕ) (events : List Event) (event : Event) (text line : List ℕ) → k ≡ n + length events
    → Replays carries old n events mid text → Tells carries mid k event new line → Replays carries old n (events ++ event ∷ []) new (text ++ line)
replays_append {S} carries old mid new n k [] event text line at run step = (
  new,
  line,
  [],
  subst (λ (s : State S). Tells carries s n event new line) run.0 (subst (λ (i : ℕ). Tells carries mid i event new line) {y = n} (omega arith) step),
  (refl, refl),
  ap (λ (l : List ℕ). l ++ line) run.1 ∙ sym (append-nil line),
)
replays_append carries old mid new n k (e ∷ es) event text line at run step = (
  run.0,
  run.1,
  run.2 ++ line,
  run.3,
  replays_append carries run.0 mid new (n + 1) k es event run.2 line (omega arith) run.4 step,
  ap (λ (l : List ℕ). l ++ line) run.5 ∙ append_assoc run.1 run.2 line,
)

replays_more : {S : Type 0} (carries : RequestMeaning S) (old mid new : State S) (events : List ScriptEvent) (i : ℕ) (d : ScriptEvent) (text line : List ℕ) → i < length events → Replays carries old 1 (map event_of (take i events)) mid text
    → Tells carries mid (i + 1) (event_of (get_or events i d)) new line → Replays carries old 1 (map event_of (take (i + 1) events)) new (text ++ line)
replays_more carries old mid new events i d text line below run step =
    let events_are : map event_of (take i events) ++ event_of (get_or events i d) ∷ [] ≡ map event_of (take (i + 1) events) =
    sym (ap (map event_of) (take_more events i d below) ∙ map-append event_of (take i events) (get_or events i d ∷ [])) in
    let many : length (map event_of (take i events)) ≡ length (take i events) = simp length-map in
    subst (λ (es : List Event). Replays carries old 1 es new (text ++ line)) events_are
    (replays_append carries old mid new 1 (i + 1) (map event_of (take i events)) (event_of (get_or events i d)) text line (omega (arith, many, length-take i events)) run step)

-- so many events from the front were carried out, and the sink took what they write
abbrev pub HasRun : {S : Type 0} → RequestMeaning S → State S → ℕ → List ScriptEvent → State S → Option (List ℕ) → Option (List ℕ) → ℕ → ℕ → ℕ → Type 0
HasRun carries old i events new taken taken2 faults faults2 written =
    (text : List ℕ) × Replays carries old 1 (map event_of (take i events)) new text × (written ≡ length text) × Appends taken taken2 text × (faults2 ≡ faults)

appends_both : (a b c : Option (List ℕ)) (x y : List ℕ) → Appends a b x → Appends b c y → Appends a c (x ++ y)
appends_both None b c x y p q = tt
appends_both (Some a) None c x y p q = absurd p
appends_both (Some a) (Some b) None x y p q = absurd q
appends_both (Some a) (Some b) (Some c) x y p q = q ∙ (ap (λ (l : List ℕ). l ++ y) p ∙ append_assoc a x y)

module _ {S : Type 0} (carries : RequestMeaning S) (old mid new : State S) (events : List ScriptEvent) (i : ℕ) (d : ScriptEvent) (below : i < length events) where
  -- the events are those so far, the next one and the others
  split : map event_of events ≡ map event_of (take i events) ++ event_of (get_or events i d) ∷ map event_of (drop (i + 1) events)
  split =
      ap (map event_of) (sym (take-append-drop (i + 1) events) ∙ ap (λ (l : List ScriptEvent). l ++ drop (i + 1) events) (take_more events i d below))
      ∙ (map-append event_of (take i events ++ get_or events i d ∷ []) (drop (i + 1) events)
      ∙ (ap (λ (l : List Event). l ++ map event_of (drop (i + 1) events)) (map-append event_of (take i events) (get_or events i d ∷ []))
      ∙ append_assoc (map event_of (take i events)) (event_of (get_or events i d) ∷ []) (map event_of (drop (i + 1) events))))

  stops : (text line : List ℕ) → Replays carries old 1 (map event_of (take i events)) mid text → Tells carries mid (i + 1) (event_of (get_or events i d)) new line
      → StopsAt carries old (map event_of events) new text line
  stops text line run step =
      let many : length (map event_of (take i events)) ≡ length (take i events) = simp length-map in (
        map event_of (take i events),
        map event_of (drop (i + 1) events),
        event_of (get_or events i d),
        mid,
        split,
        run,
        subst (λ (n : ℕ). Tells carries mid n (event_of (get_or events i d)) new line) {x = i + 1} (omega (arith, many, length-take i events)) step,
      )

  module _ (taken taken1 taken2 : Option (List ℕ)) (faults faults1 faults2 written n : ℕ) (line : List ℕ) (so_far : HasRun carries old i events mid taken taken1 faults faults1 written)
      (step : Tells carries mid (i + 1) (event_of (get_or events i d)) new line) (more : Appends taken1 taken2 (take n line)) where
    -- the sink took the line
    pub goes_on : n ≡ length line → faults2 ≡ faults1 → HasRun carries old (i + 1) events new taken taken2 faults faults2 (written + n)
    goes_on whole same =
        let both : length (so_far.0 ++ line) ≡ length so_far.0 + length line = length-append so_far.0 line in (
          so_far.0 ++ line,
          replays_more carries old mid new events i d so_far.0 line below so_far.1 step,
          omega (arith, so_far.2, whole, both),
          appends_both taken taken1 taken2 so_far.0 line so_far.3 (subst (λ (l : List ℕ). Appends taken1 taken2 l) (take_all n line (omega (arith, whole))) more),
          same ∙ so_far.4,
        )

    -- the sink failed in the line
    pub fails : n < length line → faults2 ≡ one_more faults1 → IsReplayed carries old (map event_of events) taken taken2 faults faults2 new SinkFailed (written + n)
    fails short one =
        let both : length (so_far.0 ++ line) ≡ length so_far.0 + length line = length-append so_far.0 line in
        let front : take (written + n) (so_far.0 ++ line) ≡ so_far.0 ++ take n line = ap (λ (k : ℕ). take (k + n) (so_far.0 ++ line)) so_far.2 ∙ take-append-add so_far.0 line n in (
          so_far.0,
          line,
          stops so_far.0 line so_far.1 step,
          omega (arith, so_far.2),
          omega (arith, so_far.2, both, short),
          subst (λ (l : List ℕ). Appends taken taken2 l) (sym front) (appends_both taken taken1 taken2 so_far.0 (take n line) so_far.3 more),
          one ∙ ap one_more so_far.4,
        )

  -- out of memory for the line
  pub wants : (taken taken1 : Option (List ℕ)) (faults faults1 written : ℕ) → HasRun carries old i events mid taken taken1 faults faults1 written → (line : List ℕ) × Tells carries mid (i + 1) (event_of (get_or events i d)) new line
      → IsReplayed carries old (map event_of events) taken taken1 faults faults1 new OutOfMemory written
  wants taken taken1 faults faults1 written so_far step = (so_far.0, step.0, stops so_far.0 step.0 so_far.1 step.1, so_far.2, so_far.3, so_far.4)
