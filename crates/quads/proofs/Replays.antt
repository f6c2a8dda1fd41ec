-- From the steps of a replay to its run.
use Rattle.std.proofs.Common.{◌≡◌, ◌≢◌, ◌<◌, ◌+◌, ℕ, List, ◌++◌, Option, None, Some, ◌⊎◌, inl, inr, Ok, Err, length, take, refl, sym, ◌∙◌, ap, subst, arith, append_assoc, length-append}
use Rattle.std.proofs.Math.Seq.{take-append-add}
use Rattle.std.proofs.lemmas.List.{take_all}
use Rattle.std.specs.Io.KnownBytes.{Appends}
use Rattle.qs_terms.specs.Device.{one_more}
use Rattle.qs_terms.specs.declared.fault.QFault.{QFault}
use Rattle.qs_terms.specs.declared.fault.QFault.TheVariants as fault
use Rattle.qs_results.specs.Lines.{fault_line}
use Rattle.qs_store.specs.Content.{Content}
use Rattle.qs_store.specs.declared.default_graph.DefaultGraph.{DefaultGraph}
use Rattle.qs_service.specs.Carried.{Carries}
use Rattle.qs_service.specs.Language.{sparql}
use Rattle.qs_service.specs.State.{State}
use Rattle.qs_service_connections.specs.Step.{Event}
use Rattle.qs_service_replay.specs.Replayed.{StopsAt}
use Rattle.qs_service_replay.specs.inner.Replayed.{IsReplayed}
use Rattle.qs_service_replay.specs.Script.{IsScript, IsOtherLine}
use Rattle.qs_service_replay.specs.declared.run.ReplayEnd.{ReplayEnd}
use Rattle.qs_service_replay.specs.declared.run.ReplayEnd.TheVariants.{SinkFailed, OutOfMemory}
use Rattle.quads.specs.Due.{line, service_over, IsLoaded, IsDueOfEvents, IsDueOfScript}
use Rattle.quads.specs.inner.Outcomes.{script_line}
use Rattle.quads.specs.inner.Refusal.{refusal_text}
use Rattle.quads.specs.inner.Replay.{IsBegunOfEvents, IsScriptDue, IsScriptBegun, IsReplayDue, IsReplayBegun}
use Rattle.quads.specs.inner.Run.{Prints, Runs}
use Rattle.quads.specs.inner.Service.{IsRefusalOf}
use Rattle.quads.specs.declared.job.Ran.{Ran}
use Rattle.quads.specs.declared.refusal.Refusal.{Refusal}
use Rattle.quads.specs.declared.refusal.Refusal.TheVariants.{Data, Script, Fault}

-- the line of the fault for out of memory
abbrev pub memory_line : List ℕ
memory_line = line (fault_line fault.Memory)

module _ (Due : List ℕ → ℕ → Type 0) (Begun : List ℕ → Type 0) (taken taken2 : Option (List ℕ)) (faults faults2 : ℕ) (r : Ran) where
  -- what is put is due
  pub runs_of : (bytes : List ℕ) (s : ℕ) → Due bytes s → Begun bytes → Prints bytes s taken taken2 faults faults2 r → Runs Due Begun taken taken2 faults faults2 r
  runs_of bytes s due begun p = at p.2
    where
      at : ((r.written ≡ length bytes) × (r.status ≡ s) × (faults2 ≡ faults)) ⊎ ((r.written < length bytes) × (r.status ≡ 1) × (faults2 ≡ one_more faults)) → Runs Due Begun taken taken2 faults faults2 r
      at (inl w) = inl (bytes, subst (λ (n : ℕ). Due bytes n) (sym w.1) due, w.0, subst (λ (l : List ℕ). Appends taken taken2 l) (take_all r.written bytes (omega (arith, w.0))) p.1, w.2)
      at (inr w) = inr (bytes, begun, w.0, p.1, w.1, w.2)

  -- a refusal is put, or the fault for out of memory in its place
  pub refused : (text : List ℕ) → Due text 1 → Due memory_line 1 → ((bytes : List ℕ) (s : ℕ) → Due bytes s → Begun bytes)
      → (Prints text 1 taken taken2 faults faults2 r) ⊎ (Prints memory_line 1 taken taken2 faults faults2 r) → Runs Due Begun taken taken2 faults faults2 r
  refused text due memory begun (inl p) = runs_of text 1 due (begun text 1 due) p
  refused text due memory begun (inr p) = runs_of memory_line 1 memory (begun memory_line 1 memory) p

  -- what is due of a step is due of the whole
  pub runs_on : (Due2 : List ℕ → ℕ → Type 0) (Begun2 : List ℕ → Type 0) → ((bytes : List ℕ) (s : ℕ) → Due bytes s → Due2 bytes s) → ((bytes : List ℕ) → Begun bytes → Begun2 bytes)
      → Runs Due Begun taken taken2 faults faults2 r → Runs Due2 Begun2 taken taken2 faults faults2 r
  runs_on Due2 Begun2 due begun (inl w) = inl (w.0, due w.0 r.status w.1, w.2, w.3, w.4)
  runs_on Due2 Begun2 due begun (inr w) = inr (w.0, begun w.0 w.1, w.2, w.3, w.4, w.5)

appends_both : (a b c : Option (List ℕ)) (x y : List ℕ) → Appends a b x → Appends b c y → Appends a c (x ++ y)
appends_both None b c x y p q = tt
appends_both (Some a) None c x y p q = absurd p
appends_both (Some a) (Some b) None x y p q = absurd q
appends_both (Some a) (Some b) (Some c) x y p q = q ∙ (ap (λ (l : List ℕ). l ++ y) p ∙ append_assoc a x y)

module _ (old : State) (events : List Event) where
  -- the sink failed
  pub ran_short : (taken taken2 : Option (List ℕ)) (faults faults2 : ℕ) (new : State) (written : ℕ) (end : ReplayEnd) → end ≡ SinkFailed → IsReplayed (Carries sparql) old events taken taken2 faults faults2 new end written
      → Runs (IsDueOfEvents old events) (IsBegunOfEvents old events) taken taken2 faults faults2 (record { status = 1; written = written })
  ran_short taken taken2 faults faults2 new written end is ended =
      let h = subst (λ (e : ReplayEnd). IsReplayed (Carries sparql) old events taken taken2 faults faults2 new e written) is ended in
      inr (h.0 ++ h.1, inr (new, h.0, h.1, h.2, refl), h.4, h.5, refl, h.6)

  module _ (taken taken1 taken2 : Option (List ℕ)) (faults faults1 faults2 : ℕ) (new : State) (written : ℕ) where
    memory_after : (r : Ran) → IsReplayed (Carries sparql) old events taken taken1 faults faults1 new OutOfMemory written → Prints memory_line 1 taken1 taken2 faults1 faults2 r
        → Runs (IsDueOfEvents old events) (IsBegunOfEvents old events) taken taken2 faults faults2 (record { status = 1; written = written + r.written })
    memory_after r h p = at p.2
      where
        both : length (h.0 ++ memory_line) ≡ length h.0 + length memory_line
        both = length-append h.0 memory_line

        due : IsDueOfEvents old events (h.0 ++ memory_line) 1
        due = inr (new, h.0, h.1, h.2, refl, refl)

        at : ((r.written ≡ length memory_line) × (r.status ≡ 1) × (faults2 ≡ faults1)) ⊎ ((r.written < length memory_line) × (r.status ≡ 1) × (faults2 ≡ one_more faults1))
            → Runs (IsDueOfEvents old events) (IsBegunOfEvents old events) taken taken2 faults faults2 (record { status = 1; written = written + r.written })
        at (inl w) =
            let whole : take r.written memory_line ≡ memory_line = take_all r.written memory_line (omega (arith, w.0)) in
            inl (h.0 ++ memory_line, due, omega (arith, h.3, w.0, both), appends_both taken taken1 taken2 h.0 memory_line h.4 (subst (λ (l : List ℕ). Appends taken1 taken2 l) whole p.1), w.2 ∙ h.5)
        at (inr w) =
            let front : take (written + r.written) (h.0 ++ memory_line) ≡ h.0 ++ take r.written memory_line = ap (λ (k : ℕ). take (k + r.written) (h.0 ++ memory_line)) h.3 ∙ take-append-add h.0 memory_line r.written in
            inr (
              h.0 ++ memory_line,
              inl (1, due),
              omega (arith, h.3, w.0, both),
              subst (λ (l : List ℕ). Appends taken taken2 l) (sym front) (appends_both taken taken1 taken2 h.0 (take r.written memory_line) h.4 p.1),
              refl,
              w.2 ∙ ap one_more h.5,
            )

    -- out of memory, whose line is put after
    pub ran_out_of_memory : (end : ReplayEnd) (r : Ran) (bytes : List ℕ) → end ≡ OutOfMemory → bytes ≡ memory_line → IsReplayed (Carries sparql) old events taken taken1 faults faults1 new end written → Prints bytes 1 taken1 taken2 faults1 faults2 r
        → Runs (IsDueOfEvents old events) (IsBegunOfEvents old events) taken taken2 faults faults2 (record { status = 1; written = written + r.written })
    ran_out_of_memory end r bytes is put ended prints =
        memory_after r (subst (λ (e : ReplayEnd). IsReplayed (Carries sparql) old events taken taken1 faults faults1 new e written) is ended) (subst (λ (l : List ℕ). Prints l 1 taken1 taken2 faults1 faults2 r) put prints)

module _ (old : State) (script : List ℕ) where
  -- what is due of the events is due of the script
  pub script_due : (events : List Event) → IsScript script events → (bytes : List ℕ) (s : ℕ) → IsDueOfEvents old events bytes s → IsScriptDue old script bytes s
  script_due events is bytes s due = inl (inl (events, is, due))

  pub script_begun : (events : List Event) → IsScript script events → (bytes : List ℕ) → IsBegunOfEvents old events bytes → IsScriptBegun old script bytes
  script_begun events is bytes (inl h) = inl (h.0, inl (inl (events, is, h.1)))
  script_begun events is bytes (inr h) = inr (events, h.0, h.1, h.2, is, h.3, h.4)

  pub no_script : (n : ℕ) → IsOtherLine script n → IsScriptDue old script (line (script_line n)) 1
  no_script n is = inl (inr (n, is, refl, refl))

  pub no_memory : IsScriptDue old script memory_line 1
  no_memory = inr (refl, refl)

  pub begun_of_due : (bytes : List ℕ) (s : ℕ) → IsScriptDue old script bytes s → IsScriptBegun old script bytes
  begun_of_due bytes s due = inl (s, due)

is_memory : (f : QFault) → (f ≡ fault.Memory) ⊎ (f ≢ fault.Memory)
is_memory fault.Memory = inl refl
is_memory f = inr (λ e. (cc))

module _ (choice : DefaultGraph) (file script : List ℕ) where
  -- what is due of the script is due of the job
  pub replay_due : (c : Content) (state : State) → state ≡ service_over choice c → IsLoaded file (Ok c) → (bytes : List ℕ) (s : ℕ) → IsScriptDue state script bytes s → IsReplayDue choice file script bytes s
  replay_due c state is loaded bytes s (inl due) = inl (Ok c, loaded, subst (λ (o : State). IsDueOfScript o script bytes s) is due)
  replay_due c state is loaded bytes s (inr due) = inr (inl due)

  pub replay_begun : (c : Content) (state : State) → state ≡ service_over choice c → IsLoaded file (Ok c) → (bytes : List ℕ) → IsScriptBegun state script bytes → IsReplayBegun choice file script bytes
  replay_begun c state is loaded bytes (inl h) = inl (h.0, replay_due c state is loaded bytes h.0 h.1)
  replay_begun c state is loaded bytes (inr h) =
      inr (c, h.0, h.1, h.2, h.3, loaded, h.4, subst (λ (o : State). StopsAt (Carries sparql) o h.0 h.1 h.2 h.3) is h.5, h.6)

  pub refusal_due : (r : Refusal) → IsRefusalOf file r → IsReplayDue choice file script (refusal_text r) 1
  refusal_due (Data f) is = inr (inr (f, is, refl, refl))
  refusal_due (Script n) is = absurd is
  refusal_due (Fault f) is = at (is_memory f)
    where
      at : (f ≡ fault.Memory) ⊎ (f ≢ fault.Memory) → IsReplayDue choice file script (line (fault_line f)) 1
      at (inl e) = inr (inl (ap (λ (g : QFault). line (fault_line g)) e, refl))
      at (inr n) = inl (Err f, is n, (refl, refl))

  pub memory_due : IsReplayDue choice file script memory_line 1
  memory_due = inr (inl (refl, refl))

  pub begun_of_replay : (bytes : List ℕ) (s : ℕ) → IsReplayDue choice file script bytes s → IsReplayBegun choice file script bytes
  begun_of_replay bytes s due = inl (s, due)
