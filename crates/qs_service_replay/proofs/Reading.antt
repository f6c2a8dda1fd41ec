-- How far the lines of a text are read.
use Rattle.std.proofs.Common.{◌≡◌, ◌≢◌, ◌⊎◌, inl, inr, ℕ, List, [], ◌∷◌, ◌++◌, ◌+◌, length, map, Err, ◌==◌, true, false, refl, sym, ◌∙◌, ap, subst, arith, append_assoc}
use Rattle.std.specs.List.{AllZip}
use Rattle.std.proofs.lemmas.Bool.Decides.{eqb_tells}
use Rattle.std.proofs.lemmas.List.{append-nil, map-append, length-map}
use Rattle.std.proofs.lemmas.List.Elements.{All-nil, All-cons}
use Rattle.qs_service_replay.specs.inner.ScriptEvents.{event_of}
use Rattle.qs_service_replay.specs.Script.{IsFirstLine, AreLines, IsLine, IsScript, IsOtherLine}
use Rattle.qs_service_replay.specs.inner.Script.{TellsEvent}
use Rattle.qs_service_replay.specs.inner.Script.{IsScriptFault}
use Rattle.qs_service_connections.specs.Step.{Event}
use Rattle.qs_service_replay.specs.inner.Told.{IsReadTo, IsToldAt}
use Rattle.qs_service_replay.specs.declared.script_event.ScriptEvent.{ScriptEvent}
use Rattle.qs_service_replay.specs.declared.script.ScriptFault.{ScriptFault}
use Rattle.qs_service_replay.specs.declared.script.ScriptFault.TheVariants.{Line, Memory}

-- a byte in front of a text is one in front of its first line
in_front : (b : ℕ) (text : List ℕ) → b ≢ 10 → (lines : List (List ℕ)) → AreLines text lines → (all : List (List ℕ)) × AreLines (b ∷ text) all
in_front b text other [] is =
    ((b ∷ []) ∷ [], ([], (All-cons (λ x. x ≢ 10) b [] other (All-nil (λ x. x ≢ 10)), inr (ap (λ (l : List ℕ). b ∷ l) is, (λ e. (cc)), refl)), refl))
in_front b text other (line ∷ lines) is = ((b ∷ line) ∷ lines, (is.0, (All-cons (λ x. x ≢ 10) b line other is.1.0, longer is.1.1), is.2))
  where
    longer : (text ≡ line ++ 10 ∷ is.0) ⊎ ((text ≡ line) × (line ≢ []) × (is.0 ≡ [])) → (b ∷ text ≡ (b ∷ line) ++ 10 ∷ is.0) ⊎ ((b ∷ text ≡ b ∷ line) × (b ∷ line ≢ []) × (is.0 ≡ []))
    longer (inl e) = inl (ap (λ (l : List ℕ). b ∷ l) e)
    longer (inr h) = inr (ap (λ (l : List ℕ). b ∷ l) h.0, (λ e. (cc)), h.2)

-- a text has lines
lines_of : (text : List ℕ) → (lines : List (List ℕ)) × AreLines text lines
lines_of [] = ([], refl)
lines_of (b ∷ text) = by (eqb_tells b 10) (lines_of text)
  where
    by : ((b == 10) ≡ true) × (b ≡ 10) ⊎ ((b == 10) ≡ false) × (b ≢ 10) → (lines : List (List ℕ)) × AreLines text lines → (lines : List (List ℕ)) × AreLines (b ∷ text) lines
    by (inl w) h = ([] ∷ h.0, (text, (All-nil (λ x. x ≢ 10), inl (ap (λ (n : ℕ). n ∷ text) w.1)), h.1))
    by (inr w) h = in_front b text w.1 h.0 h.1

module _ (text : List ℕ) where
  pub none_read : IsReadTo text [] text
  none_read = ([], tt, λ lines is. is)

  push : (front : List (List ℕ)) (events : List Event) (line : List ℕ) (event : Event) → AllZip IsLine front events → IsLine line event → AllZip IsLine (front ++ line ∷ []) (events ++ event ∷ [])
  push [] [] line event all is = (is, tt)
  push [] (e ∷ events) line event all is = absurd all
  push (l ∷ front) [] line event all is = absurd all
  push (l ∷ front) (e ∷ events) line event all is = (all.0, push front events line event all.1 is)

  -- the next line is read
  more_read : (events : List Event) (rest line behind : List ℕ) (event : Event) → IsReadTo text events rest → IsFirstLine rest line behind → IsLine line event → IsReadTo text (events ++ event ∷ []) behind
  more_read events rest line behind event read first is = (
    read.0 ++ line ∷ [],
    push read.0 events line event read.1 is,
    λ lines are. subst (λ (all : List (List ℕ)). AreLines text all) (sym (append_assoc read.0 (line ∷ []) lines)) (read.2 (line ∷ lines) (behind, first, are)),
  )

  pub read_on : (items all : List ScriptEvent) (h : ScriptEvent) (rest line behind : List ℕ) → all ≡ items ++ h ∷ [] → IsReadTo text (map event_of items) rest → IsFirstLine rest line behind → IsLine line (event_of h)
      → IsReadTo text (map event_of all) behind
  read_on items all h rest line behind is read first told =
      subst (λ (events : List Event). IsReadTo text events behind) (sym (ap (map event_of) is ∙ map-append event_of items (h ∷ [])))
      (more_read (map event_of items) rest line behind (event_of h) read first told)

  -- nothing is left
  pub all_read : (events : List Event) (rest : List ℕ) → IsReadTo text events rest → rest ≡ [] → IsScript text events
  all_read events rest read is = (read.0, subst (λ (all : List (List ℕ)). AreLines text all) (append-nil read.0) (read.2 [] is), read.1)

  as_long : (front : List (List ℕ)) (events : List Event) → AllZip IsLine front events → length front ≡ length events
  as_long [] [] h = refl
  as_long [] (e ∷ events) h = absurd h
  as_long (l ∷ front) [] h = absurd h
  as_long (l ∷ front) (e ∷ events) h = let rest : length front ≡ length events = as_long front events h.1 in omega arith

  -- the next line tells none
  pub other_line : (items : List ScriptEvent) (rest line behind : List ℕ) (n : ℕ) → n ≡ length items + 1 → IsReadTo text (map event_of items) rest → IsFirstLine rest line behind → (¬ TellsEvent line) → IsOtherLine text n
  other_line items rest line behind n is read first none =
      let left = lines_of behind in
      let many : length read.0 ≡ length (map event_of items) = as_long read.0 (map event_of items) read.1 in
      (read.0, left.0, line, map event_of items, read.2 (line ∷ left.0) (behind, first, left.1), read.1, none, is ∙ ap (λ (k : ℕ). k + 1) (sym (many ∙ length-map items event_of)))

  pub fault_of : (items : List ScriptEvent) (rest line behind : List ℕ) (n : ℕ) (fault : ScriptFault) → n ≡ length items + 1 → IsReadTo text (map event_of items) rest → IsFirstLine rest line behind → IsToldAt line n (Err fault)
      → IsScriptFault text fault
  fault_of items rest line behind n (Line k) is read first told = other_line items rest line behind k (told.0 ∙ is) read first told.1
  fault_of items rest line behind n Memory is read first told = tt
