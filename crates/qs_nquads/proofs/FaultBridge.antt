-- Reading a text a token at a time stops with the fault that is due after parts of which the grammar makes the front of a document.
use Rattle.std.proofs.Common.{◌<◌, ◌≡◌, ◌≢◌, ◌⊎◌, inl, inr, ℕ, ◌+◌, ◌^◌, ◌-◌, nat_lt, Bool, true, false, List, [], ◌∷◌, ◌++◌, length, Option, Some, None, Result, Ok, Err, refl, sym, ap, ◌∙◌, subst, arith, true≢false, IsUtf8, chars, encode_utf8_all}
use Rattle.std.specs.Prelude.{IfErr, if◌then◌else◌}
use Rattle.std.proofs.lemmas.Str.{length-le-encodes}
use Rattle.std.specs.Map.{lookup}
use Rattle.std.specs.Str.{bytes_eq}
use Rattle.qs_lex_regular.specs.Longest.{LongestFront}
use Rattle.qs_terms.specs.Statement.{Statement}
use Rattle.qs_terms.specs.declared.fault.TermFault.{TermFault}
use Rattle.qs_nquads.specs.Document.{IsDocument}
use Rattle.qs_nquads.specs.Gap.{skip}
use Rattle.qs_nquads.specs.inner.Gap.{behind_gap}
use Rattle.qs_nquads.specs.Labels.{Numbering, with_label, number, from}
use Rattle.qs_nquads.specs.inner.Labels.{known_or_new}
use Rattle.qs_nquads.specs.Nquads.{Reads, IsBegun, TakesBlank, IsBadType, SaysNone, IsDue, IsFault, line_at}
use Rattle.qs_nquads.specs.Part.{said}
use Rattle.qs_nquads.specs.inner.Part.{iri_part, blank_part, behind}
use Rattle.qs_nquads.specs.Table.{table}
use Rattle.qs_nquads.specs.inner.Next.{Next}
use Rattle.qs_nquads.specs.inner.Outcome.{StopsAt, ComesTo, IsStop, FailsAt}
use Rattle.qs_nquads.specs.inner.PartAt.{takes_label, label_part, part_of}
use Rattle.qs_nquads.specs.inner.Reading.{State, start, ends, stops, step}
use Rattle.qs_nquads.specs.inner.StatementState.{after, may_end}
use Rattle.qs_nquads.specs.declared.class.Class.{Class}
use Rattle.qs_nquads.specs.declared.class.Class.TheVariants as class
use Rattle.qs_nquads.specs.declared.fault.NqFaultKind.{NqFaultKind}
use Rattle.qs_nquads.specs.declared.fault.NqFaultKind.TheVariants as fault
use Rattle.qs_nquads.specs.declared.part.Part.{Part}
use Rattle.qs_nquads.specs.declared.part.Part.TheVariants as part
use Rattle.qs_nquads.specs.declared.statement_state.StatementState.{StatementState}
use Rattle.qs_nquads.proofs.Bridge.{Made, Readable, Misplaced, read_err, read_misplaced, readable, steps_to, stops_by, goes_stops, stops_kind, stops_rest, end_stops, Been, been, ComesBy, comes_by}
use Rattle.qs_nquads.proofs.Documents.{At, at, begin, arrive, Runs, runs_one, document_runs, runs_document, runs_begun, begun_runs, goes_begun, begun_goes}
use Rattle.qs_nquads.proofs.PartFaults.{Refuses, Refused, err_ok, takes_blank, blank_taken, bad_type_fails, after_fault, refused_type}
use Rattle.qs_nquads.proofs.Stops.{due_at_stop}
use Rattle.qs_nquads.proofs.TextTokens.{state_of, is_said, lawful, by_none, by_end, Cases, cases}
use Rattle.qs_nquads.proofs.Unique.{stops_at}

-- ---- faults of parts

ok_err : (a : Part × Numbering) (f : NqFaultKind) → ◌≡◌ {A = Made} (Ok a) (Err f) → ⊥
ok_err a f e = cc

err_one : (f g : NqFaultKind) → ◌≡◌ {A = Made} (Err f) (Err g) → f ≡ g
err_one f g e = cc

next_err_one : (f g : NqFaultKind) → ◌≡◌ {A = Result Next NqFaultKind} (Err f) (Err g) → f ≡ g
next_err_one f g e = cc

shape_literal : (g : NqFaultKind) → g ≡ fault.Shape → g ≡ fault.Literal → ⊥
shape_literal g e f = let h : fault.Shape ≡ fault.Literal = sym e ∙ f in cc

iri_fault : (n : Numbering) (r : Result (List ℕ) TermFault) (g : NqFaultKind) → iri_part n r ≡ Err g → g ≡ fault.Iri
iri_fault n (Ok i) g e = absurd (ok_err (part.Iri i, n) g e)
iri_fault n (Err f) g e = sym (err_one fault.Iri g e)

full_if : (b : Bool) (x : ℕ × Numbering) (g : NqFaultKind) → blank_part (if b then (Ok x) else (Err fault.Full)) ≡ Err g → g ≡ fault.Full
full_if true x g e = absurd (ok_err (part.Blank x.0, x.1) g e)
full_if false x g e = sym (err_one fault.Full g e)

full_known : (n : Numbering) (label : List ℕ) (o : Option ℕ) (g : NqFaultKind) → blank_part (known_or_new n label o) ≡ Err g → g ≡ fault.Full
full_known n label (Some k) g e = absurd (ok_err (part.Blank k, n) g e)
full_known n label None g e = full_if (nat_lt (n.next + 1) (2 ^ 64)) (n.next, with_label n label) g e

label_fault : (n : Numbering) (label : List ℕ) (g : NqFaultKind) → blank_part (number n label) ≡ Err g → g ≡ fault.Full
label_fault n label g e = full_known n label (lookup (bytes_eq label) n.numbers) g e

-- a front that says no part says none at its place; a label may have no place
none_said : (pl : StatementState) (n : Numbering) (k : Class) (x : List ℕ) (g : NqFaultKind) → said n k x ≡ Err g → (part_of pl n k x ≡ Err g) ⊎ ((k ≡ class.Label) × (g ≡ fault.Full))
none_said pl n class.Iri x g e = inl e
none_said pl n class.String x g e = inl e
none_said pl n class.Tag x g e = inl e
none_said pl n class.Label x g e = inr (refl, label_fault n (behind x 2) g e)
none_said pl n class.Carets x g e = inl e
none_said pl n class.Dot x g e = inl e
none_said pl n class.LineEnd x g e = inl e
none_said pl n class.Open x g e = inl e
none_said pl n class.Broken x g e = inl e

-- a label with a place
none_taken : (pl : StatementState) (n : Numbering) (k : Class) (x : List ℕ) (g : NqFaultKind) → takes_label pl ≡ true → said n k x ≡ Err g → part_of pl n k x ≡ Err g
none_taken pl n class.Label x g t e = ap (λ z. label_part n z (behind x 2)) t ∙ e
none_taken pl n class.Iri x g t e = e
none_taken pl n class.String x g t e = e
none_taken pl n class.Tag x g t e = e
none_taken pl n class.Carets x g t e = e
none_taken pl n class.Dot x g t e = e
none_taken pl n class.LineEnd x g t e = e
none_taken pl n class.Open x g t e = e
none_taken pl n class.Broken x g t e = e

-- a front that says a part says it at its place, or is a label without a place
some_said : (pl : StatementState) (n : Numbering) (k : Class) (x : List ℕ) (p : Part) (o : Numbering) → said n k x ≡ Ok (p, o)
    → (part_of pl n k x ≡ Ok (p, o)) ⊎ ((part_of pl n k x ≡ Err fault.Shape) × ((b : ℕ) × (p ≡ part.Blank b)))
some_said pl n class.Iri x p o e = inl e
some_said pl n class.String x p o e = inl e
some_said pl n class.Tag x p o e = inl e
some_said pl n class.Label x p o e = by (takes_label pl) where
  blank : (r : Result (ℕ × Numbering) NqFaultKind) → blank_part r ≡ Ok (p, o) → (b : ℕ) × (p ≡ part.Blank b)
  blank (Ok k) f = let same : ◌≡◌ {A = Part × Numbering} (part.Blank k.0, k.1) (p, o) = cc in (k.0, sym (ap (λ (z : Part × Numbering). z.0) same))
  blank (Err g) f = absurd (ok_err (p, o) g (sym f))

  by : (b : Bool) → (label_part n b (behind x 2) ≡ Ok (p, o)) ⊎ ((label_part n b (behind x 2) ≡ Err fault.Shape) × ((b : ℕ) × (p ≡ part.Blank b)))
  by true = inl e
  by false = inr (refl, blank (number n (behind x 2)) e)
some_said pl n class.Carets x p o e = inl e
some_said pl n class.Dot x p o e = inl e
some_said pl n class.LineEnd x p o e = inl e
some_said pl n class.Open x p o e = inl e
some_said pl n class.Broken x p o e = inl e

iri_blank : (i : List ℕ) (b : ℕ) → part.Iri i ≡ part.Blank b → ⊥
iri_blank i b e = cc

module _ (ps : List Part) (a : At) (r : Runs begin ps a) (n : Numbering) (text : List ℕ) (u : IsUtf8 text) where
  abbrev unread : List ℕ
  unread = skip false (chars text)

  abbrev Stops : NqFaultKind → Type 0
  Stops g = step (state_of a n text) ≡ stops g (behind_gap text)

  no_document : may_end a.place ≡ false → (quads : List Statement) → IsDocument ps quads → ⊥
  no_document e quads d =
      let h = document_runs ps quads d in
      true≢false (sym h.2 ∙ (ap (λ (z : At). may_end z.place) (runs_one begin (at h.0 quads) a ps h.1 r) ∙ e))

  -- ---- a fault that is due stops reading

  stops_as : (k : Class) (len : ℕ) (f : LongestFront table unread k len) (g : NqFaultKind) → part_of a.place n k (encode_utf8_all f.front) ≡ Err g → Stops g
  stops_as k len f g e = stops_by a n text u k len f g (read_err a n k (encode_utf8_all f.front) g e)

  stops_none : (g : NqFaultKind) → g ≢ fault.Full → SaysNone unread n g → Stops g
  stops_none g m (k, len, f, e) = by (none_said a.place n k (encode_utf8_all f.front) g e) where
    by : (part_of a.place n k (encode_utf8_all f.front) ≡ Err g) ⊎ ((k ≡ class.Label) × (g ≡ fault.Full)) → Stops g
    by (inl h) = stops_as k len f g h
    by (inr h) = absurd (m h.1)

  stops_full : SaysNone unread n fault.Full → TakesBlank ps → Stops fault.Full
  stops_full (k, len, f, e) t = stops_as k len f fault.Full (none_taken a.place n k (encode_utf8_all f.front) fault.Full (takes_blank ps a r t) e)

  stops_part : (k : Class) (len : ℕ) (f : LongestFront table unread k len) (p : Part) (o : Numbering) (g : NqFaultKind) → part_of a.place n k (encode_utf8_all f.front) ≡ Ok (p, o) → after a.place p ≡ Err g → Stops g
  stops_part k len f p o g e h = stops_by a n text u k len f g (read_misplaced a n k (encode_utf8_all f.front) p o g e h)

  stops_bad_type : (k : Class) (len : ℕ) (f : LongestFront table unread k len) (p : Part) (o : Numbering) → said n k (encode_utf8_all f.front) ≡ Ok (p, o) → IsBadType ps p → Stops fault.Literal
  stops_bad_type k len f p o e h = by (some_said a.place n k (encode_utf8_all f.front) p o e) where
    by : (part_of a.place n k (encode_utf8_all f.front) ≡ Ok (p, o)) ⊎ ((part_of a.place n k (encode_utf8_all f.front) ≡ Err fault.Shape) × ((b : ℕ) × (p ≡ part.Blank b))) → Stops fault.Literal
    by (inl d) = stops_part k len f p o fault.Literal d (bad_type_fails ps a p r h)
    by (inr d) = absurd (iri_blank h.2 d.1.0 (sym h.5 ∙ d.1.1))

  stops_misplaced : (k : Class) (len : ℕ) (f : LongestFront table unread k len) (p : Part) (o : Numbering) → said n k (encode_utf8_all f.front) ≡ Ok (p, o) → (IsBegun (ps ++ p ∷ []) → ⊥) → (IsBadType ps p → ⊥) → Stops fault.Shape
  stops_misplaced k len f p o e begun bad = by (some_said a.place n k (encode_utf8_all f.front) p o e) where
    refused : (g : NqFaultKind) → part_of a.place n k (encode_utf8_all f.front) ≡ Ok (p, o) → after a.place p ≡ Err g → Refused (Refuses a.place p) g → Stops fault.Shape
    refused g d h (inl is) = subst Stops is (stops_part k len f p o g d h)
    refused g d h (inr (is, k_refuses)) = absurd (bad (refused_type ps a p r (lawful text u k len f n p o e) k_refuses))

    at_part : (x : Result Next NqFaultKind) → after a.place p ≡ x → part_of a.place n k (encode_utf8_all f.front) ≡ Ok (p, o) → Stops fault.Shape
    at_part (Ok m) h d = absurd (begun (goes_begun ps a r p m h))
    at_part (Err g) h d = refused g d h (subst (λ z. IfErr z (Refused (Refuses a.place p))) h (after_fault a.place p))

    by : (part_of a.place n k (encode_utf8_all f.front) ≡ Ok (p, o)) ⊎ ((part_of a.place n k (encode_utf8_all f.front) ≡ Err fault.Shape) × ((b : ℕ) × (p ≡ part.Blank b))) → Stops fault.Shape
    by (inl d) = at_part (after a.place p) refl d
    by (inr d) = stops_as k len f fault.Shape d.0

  stops_label : (k : Class) (len : ℕ) (f : LongestFront table unread k len) → k ≡ class.Label → (TakesBlank ps → ⊥) → Stops fault.Shape
  stops_label k len f is t = stops_as k len f fault.Shape (ap (λ z. part_of a.place n z (encode_utf8_all f.front)) is ∙ by (takes_label a.place) refl) where
    by : (b : Bool) → takes_label a.place ≡ b → label_part n (takes_label a.place) (behind (encode_utf8_all f.front) 2) ≡ Err fault.Shape
    by true e = absurd (t (blank_taken ps a r e))
    by false e = ap (λ z. label_part n z (behind (encode_utf8_all f.front) 2)) e

  stops_end : unread ≡ [] → ((quads : List Statement) → IsDocument ps quads → ⊥) → Stops fault.Shape
  stops_end e d = by_end text u a n e ∙ (by (may_end a.place) refl ∙ ap (λ z. stops fault.Shape (encode_utf8_all z)) (sym e)) where
    by : (b : Bool) → may_end a.place ≡ b → (if may_end a.place then ends else stops fault.Shape []) ≡ stops fault.Shape []
    by true h = absurd (d a.quads (runs_document ps a.place a.quads r h))
    by false h = ap (λ z. if z then ends else stops fault.Shape []) h

  pub due_stops : (g : NqFaultKind) → g ≢ fault.Memory → IsDue ps n unread g → Stops g
  due_stops fault.Utf8 m h = absurd h
  due_stops fault.Token m (inl h) = by_none text u a n h.0 h.1
  due_stops fault.Token m (inr h) = stops_none fault.Token (λ e. cc) h
  due_stops fault.Shape m (inl h) = stops_end h.0 h.1
  due_stops fault.Shape m (inr (inl ((k, len, f, is), t))) = stops_label k len f is t
  due_stops fault.Shape m (inr (inr (k, len, f, (p, o, e, (begun, bad))))) = stops_misplaced k len f p o e begun bad
  due_stops fault.Iri m h = stops_none fault.Iri (λ e. cc) h
  due_stops fault.Escape m h = stops_none fault.Escape (λ e. cc) h
  due_stops fault.Literal m (k, len, f, (p, o, e, bad)) = stops_bad_type k len f p o e bad
  due_stops fault.Memory m h = absurd (m refl)
  due_stops fault.Full m h = stops_full h.0 h.1

  -- ---- what stops reading is due

  due_none : (k : Class) (len : ℕ) (f : LongestFront table unread k len) (g : NqFaultKind) → part_of a.place n k (encode_utf8_all f.front) ≡ Err g → IsDue ps n unread g
  due_none class.Iri len f g e =
      let is : g ≡ fault.Iri = iri_fault n _ g e in subst (λ z. IsDue ps n unread z) (sym is) (class.Iri, len, f, subst (λ z. said n class.Iri (encode_utf8_all f.front) ≡ Err z) is e)
  due_none class.String len f g e = absurd (ok_err _ g e)
  due_none class.Tag len f g e = absurd (ok_err _ g e)
  due_none class.Label len f g e = by (takes_label a.place) refl e where
    by : (b : Bool) → takes_label a.place ≡ b → label_part n b (behind (encode_utf8_all f.front) 2) ≡ Err g → IsDue ps n unread g
    by true t h =
        let is : g ≡ fault.Full = label_fault n (behind (encode_utf8_all f.front) 2) g h in
        subst (λ z. IsDue ps n unread z) (sym is) ((class.Label, len, f, subst (λ z. said n class.Label (encode_utf8_all f.front) ≡ Err z) is h), blank_taken ps a r t)
    by false t h = subst (λ z. IsDue ps n unread z) (err_one fault.Shape g h) (inr (inl ((class.Label, len, f, refl), λ b. true≢false (sym (takes_blank ps a r b) ∙ t))))
  due_none class.Carets len f g e = absurd (ok_err _ g e)
  due_none class.Dot len f g e = absurd (ok_err _ g e)
  due_none class.LineEnd len f g e = absurd (ok_err _ g e)
  due_none class.Open len f g e = subst (λ z. IsDue ps n unread z) (err_one fault.Token g e) (inr (class.Open, len, f, refl))
  due_none class.Broken len f g e = subst (λ z. IsDue ps n unread z) (err_one fault.Escape g e) (class.Broken, len, f, refl)

  due_misplaced : (k : Class) (len : ℕ) (f : LongestFront table unread k len) (g : NqFaultKind) → Misplaced a n k (encode_utf8_all f.front) g → IsDue ps n unread g
  due_misplaced k len f g m = by (subst (λ z. IfErr z (Refused (Refuses a.place m.part))) m.fails (after_fault a.place m.part)) where
    says : said n k (encode_utf8_all f.front) ≡ Ok (m.part, m.labels)
    says = is_said a.place n (encode_utf8_all f.front) k m.part m.labels m.made

    not_begun : IsBegun (ps ++ m.part ∷ []) → ⊥
    not_begun b = let h = begun_goes ps a r m.part b in err_ok g h.0 (sym m.fails ∙ h.1)

    not_bad : g ≡ fault.Shape → IsBadType ps m.part → ⊥
    not_bad is b = shape_literal g is (next_err_one g fault.Literal (sym m.fails ∙ bad_type_fails ps a m.part r b))

    by : Refused (Refuses a.place m.part) g → IsDue ps n unread g
    by (inl is) = subst (λ z. IsDue ps n unread z) (sym is) (inr (inr (k, len, f, (m.part, m.labels, says, (not_begun, not_bad is)))))
    by (inr (is, h)) = subst (λ z. IsDue ps n unread z) (sym is) (k, len, f, (m.part, m.labels, says, refused_type ps a m.part r (lawful text u k len f n m.part m.labels says) h))

  abbrev Due : NqFaultKind → List ℕ → Type 0
  Due g x = IsDue ps n unread g × (behind_gap text ≡ x)

  same_stop : (f g : NqFaultKind) (x : List ℕ) → IsDue ps n unread f → Stops f → step (state_of a n text) ≡ stops g x → Due g x
  same_stop f g x d e h =
      let both : stops f (behind_gap text) ≡ stops g x = sym e ∙ h in
      (subst (λ z. IsDue ps n unread z) (stops_kind f g (behind_gap text) x both) d, stops_rest f g (behind_gap text) x both)

  pub stop_due : (g : NqFaultKind) (x : List ℕ) → step (state_of a n text) ≡ stops g x → Due g x
  stop_due g x e = by (cases text u) where
    by : Cases text u → Due g x
    by (inl z) =
        let h = end_stops (may_end a.place) g x (sym (by_end text u a n z) ∙ e) in
        (subst (λ z. IsDue ps n unread z) h.1 (inl (z, no_document h.0)), ap (λ z. encode_utf8_all z) z ∙ h.2)
    by (inr (inl h)) = same_stop fault.Token g x (inl h) (by_none text u a n h.0 h.1) e
    by (inr (inr (k, len, f))) = token (readable a n k (encode_utf8_all f.front)) where
      token : Readable a n k (encode_utf8_all f.front) → Due g x
      token (inl t) =
          absurd (goes_stops g x (state_of (arrive a.quads t.next) t.labels (encode_utf8_all f.rest))
          (sym (steps_to a n text u k len f t.part t.labels t.next (is_said a.place n (encode_utf8_all f.front) k t.part t.labels t.made) t.goes_on) ∙ e))
      token (inr (h, inl m)) = same_stop h g x (due_misplaced k len f h m) (stops_part k len f m.part m.labels h m.made m.fails) e
      token (inr (h, inr m)) = same_stop h g x (due_none k len f h m) (stops_as k len f h m) e

-- ---- faults of texts

abbrev DueIn : List ℕ → ℕ → NqFaultKind → ℕ → Type 0
DueIn bytes first kind left =
    (ps : List Part) × (n : Numbering) × (rest : List ℕ) × Reads (chars bytes) (from first) ps n rest × IsBegun ps × IsDue ps n (skip false rest) kind × (left ≡ length (encode_utf8_all (skip false rest)))

been_due : (bytes : List ℕ) (first : ℕ) (kind : NqFaultKind) (left : ℕ) (s : State) (b : Been bytes first s) → IsDue b.parts b.labels (skip false (chars b.rest)) kind → left ≡ length (behind_gap s.rest) → DueIn bytes first kind left
been_due bytes first kind left s b d e =
    (b.parts, b.labels, chars b.rest, b.reads, runs_begun b.parts b.place b.runs, d, e ∙ ap (λ (z : State). length (behind_gap z.rest)) b.state)

stop_in : (bytes : List ℕ) (first : ℕ) (kind : NqFaultKind) (left : ℕ) → IsUtf8 bytes → StopsAt (start first bytes) kind left → DueIn bytes first kind left
stop_in bytes first kind left u (s, x, c, e, l) =
    let b : Been bytes first s = been bytes first u s c in
    let d = stop_due b.parts b.place b.runs b.labels b.rest b.utf8 kind x (subst (λ z. step z ≡ stops kind x) b.state e) in
    (b.parts, b.labels, chars b.rest, b.reads, runs_begun b.parts b.place b.runs, d.0, l ∙ ap length (sym d.1))

memory_or_not : (kind : NqFaultKind) → (kind ≡ fault.Memory) ⊎ (kind ≢ fault.Memory)
memory_or_not fault.Memory = inl refl
memory_or_not fault.Utf8 = inr (λ e. cc)
memory_or_not fault.Token = inr (λ e. cc)
memory_or_not fault.Shape = inr (λ e. cc)
memory_or_not fault.Iri = inr (λ e. cc)
memory_or_not fault.Escape = inr (λ e. cc)
memory_or_not fault.Literal = inr (λ e. cc)
memory_or_not fault.Full = inr (λ e. cc)

some_chars : (cs : List ℕ) → 0 < length (encode_utf8_all cs) → 0 < length cs
some_chars [] h = h
some_chars (c ∷ cs) h = omega arith

memory_in : (bytes : List ℕ) (first left : ℕ) → IsUtf8 bytes → ComesTo (start first bytes) left → DueIn bytes first fault.Memory left
memory_in bytes first left u (s, c, e, l) =
    let b : Been bytes first s = been bytes first u s c in
    let same : left ≡ length (encode_utf8_all (skip false (chars b.rest))) = e ∙ ap (λ (z : State). length (behind_gap z.rest)) b.state in
    been_due bytes first fault.Memory left s b (some_chars (skip false (chars b.rest)) (subst (λ z. 0 < z) same l)) e

pub due_in : (bytes : List ℕ) (first : ℕ) (kind : NqFaultKind) (left : ℕ) → IsUtf8 bytes → IsStop (start first bytes) kind left → DueIn bytes first kind left
due_in bytes first kind left u h = by (memory_or_not kind) where
  by : (kind ≡ fault.Memory) ⊎ (kind ≢ fault.Memory) → DueIn bytes first kind left
  by (inl e) = subst (λ z. DueIn bytes first z left) (sym e) (memory_in bytes first left u (subst (λ z. IsStop (start first bytes) z left) e h))
  by (inr m) = stop_in bytes first kind left u (stops_at (start first bytes) kind left m h)

due_from : (bytes : List ℕ) (first : ℕ) (kind : NqFaultKind) (left : ℕ) → IsUtf8 bytes → DueIn bytes first kind left → IsStop (start first bytes) kind left
due_from bytes first kind left u (ps, n, rest, h, begun, d, e) = by (begun_runs ps begun) where
  at_memory : (a : At) (c : ComesBy begin (from first) bytes a n rest) → left ≡ length (behind_gap c.bytes) → kind ≡ fault.Memory → IsStop (start first bytes) kind left
  at_memory a c size is =
      let some : 0 < length (skip false rest) = subst (λ z. IsDue ps n (skip false rest) z) is d in
      let l : 0 < left = omega (arith, some, e, length-le-encodes (skip false rest)) in
      subst (λ z. IsStop (start first bytes) z left) (sym is) (state_of a n c.bytes, c.comes, size, l)

  by : (a : At) × Runs begin ps a → IsStop (start first bytes) kind left
  by (a, r) =
      let c : ComesBy begin (from first) bytes a n rest = comes_by ps bytes (from first) n rest begin a u h r in
      let size : left ≡ length (behind_gap c.bytes) = e ∙ ap (λ z. length (encode_utf8_all (skip false z))) (sym c.chars_are) in
      let due : IsDue ps n (skip false (chars c.bytes)) kind = subst (λ z. IsDue ps n (skip false z) kind) (sym c.chars_are) d in
      elim (memory_or_not kind) as (λ _. IsStop (start first bytes) kind left) [
        | inl is ↦ at_memory a c size is
        | inr m ↦ (due_at_stop (start first bytes) kind left (state_of a n c.bytes, behind_gap c.bytes, c.comes, due_stops ps a r n c.bytes c.utf8 kind m due, size)).1
      ]

pub to_fault : (bytes : List ℕ) (first : ℕ) (kind : NqFaultKind) (line : ℕ) → FailsAt bytes first kind line → IsFault bytes first kind line
to_fault bytes first kind line (inl h) = inl h
to_fault bytes first kind line (inr (u, (left, h, e))) =
    let d : DueIn bytes first kind left = due_in bytes first kind left u h in
    inr (u, (d.0, d.1, d.2, d.3, d.4, d.5, e ∙ ap (λ z. line_at bytes (length bytes - z)) d.6))

pub from_fault : (bytes : List ℕ) (first : ℕ) (kind : NqFaultKind) (line : ℕ) → IsFault bytes first kind line → FailsAt bytes first kind line
from_fault bytes first kind line (inl h) = inl h
from_fault bytes first kind line (inr (u, (ps, n, rest, h, begun, d, e))) =
    inr (u, (length (encode_utf8_all (skip false rest)), due_from bytes first kind (length (encode_utf8_all (skip false rest))) u (ps, n, rest, h, begun, d, refl), e))
