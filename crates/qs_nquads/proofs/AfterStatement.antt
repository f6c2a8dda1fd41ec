-- A reader that has handed out a statement stands directly after its `.`.
use Rattle.std.proofs.Common.{◌≡◌, inl, inr, ℕ, ◌+◌, Bool, true, false, List, [], ◌∷◌, ◌++◌, length, Result, Ok, Err, IfOk, refl, sym, ap, ◌∙◌, subst, arith, true≢false, length-append, IsUtf8, encode_utf8_all}
use Rattle.std.proofs.lemmas.Str.{encode_ascii}
use Rattle.qs_lex_regular.specs.Form.{Spells, char}
use Rattle.qs_terms.specs.Literal.{Literal}
use Rattle.qs_terms.specs.Statement.{Statement}
use Rattle.qs_terms.specs.declared.fault.TermFault.{TermFault}
use Rattle.qs_nquads.specs.Labels.{Numbering, number}
use Rattle.qs_nquads.specs.Part.{said}
use Rattle.qs_nquads.specs.inner.Part.{iri_part, behind}
use Rattle.qs_nquads.specs.inner.Gap.{behind_gap}
use Rattle.qs_nquads.specs.inner.Next.{Next}
use Rattle.qs_nquads.specs.inner.Next as next
use Rattle.qs_nquads.specs.inner.Outcome.{ComesTo}
use Rattle.qs_nquads.specs.inner.Reading.{Reading, State, start, goes, step, read, Comes, here, on}
use Rattle.qs_nquads.specs.inner.StatementState.{with_literal, after}
use Rattle.qs_nquads.specs.inner.Unread.{reading}
use Rattle.qs_nquads.specs.declared.class.Class.{Class}
use Rattle.qs_nquads.specs.declared.class.Class.TheVariants as class
use Rattle.qs_nquads.specs.declared.fault.NqFaultKind.{NqFaultKind}
use Rattle.qs_nquads.specs.declared.node.Node.{Node}
use Rattle.qs_nquads.specs.declared.part.Part.{Part}
use Rattle.qs_nquads.specs.declared.part.Part.TheVariants as part
use Rattle.qs_nquads.specs.declared.statement_state.StatementState.{StatementState}
use Rattle.qs_nquads.specs.declared.statement_state.StatementState.TheVariants as place
use Rattle.qs_nquads.proofs.Bridge.{now, Made, Readable, readable, read_ok, read_err, read_misplaced, Been, been, Next_token, token_of}
use Rattle.qs_nquads.proofs.Documents.{At, at, arrive}
use Rattle.qs_nquads.proofs.TakenEscapes.{this_char}
use Rattle.qs_nquads.proofs.TakenTokens.{form_of, spelled}
use Rattle.qs_nquads.proofs.TextTokens.{ok_part, err_ok_part, blank_is, split}

-- ---- a front that makes a statement whole leaves its place

longer : (quads : List Statement) (q : Statement) → quads ≡ quads ++ q ∷ [] → ⊥
longer quads q e = let l : length quads ≡ length quads + 1 = ap length e ∙ length-append quads (q ∷ []) in absurd (omega (arith, l))

one_reading : (r s : Reading) → ◌≡◌ {A = Result Reading NqFaultKind} (Ok r) (Ok s) → r ≡ s
one_reading r s e = cc

no_reading : (f : NqFaultKind) (r : Reading) → ◌≡◌ {A = Result Reading NqFaultKind} (Err f) (Ok r) → ⊥
no_reading f r e = cc

module _ (quads : List Statement) (q : Statement) (p : StatementState) (labels : Numbering) where
  from_next : (m : Next) (o : Numbering) → now (arrive quads m) o ≡ reading p labels (quads ++ q ∷ []) → p ≡ place.Done
  from_next (next.StatementState r) o e = absurd (longer quads q (ap (λ (z : Reading). z.quads) e))
  from_next (next.Quad r) o e = sym (ap (λ (z : Reading). z.place) e)

  pub whole_done : (old : StatementState) (n : Numbering) (k : Class) (x : List ℕ) → read (reading old n quads) k x ≡ Ok (reading p labels (quads ++ q ∷ [])) → p ≡ place.Done
  whole_done old n k x e = by (readable (at old quads) n k x) where
    by : Readable (at old quads) n k x → p ≡ place.Done
    by (inl g) = from_next g.next g.labels (one_reading (now (arrive quads g.next) g.labels) (reading p labels (quads ++ q ∷ [])) (sym (read_ok (at old quads) n k x g.part g.labels g.next g.made g.goes_on) ∙ e))
    by (inr (g, inl h)) = absurd (no_reading g (reading p labels (quads ++ q ∷ [])) (sym (read_misplaced (at old quads) n k x h.part h.labels g h.made h.fails) ∙ e))
    by (inr (g, inr h)) = absurd (no_reading g (reading p labels (quads ++ q ∷ [])) (sym (read_err (at old quads) n k x g h) ∙ e))

-- ---- that place comes by a dot alone

is_done : StatementState → Bool
is_done place.Done = true
is_done place.Start = false
is_done (place.Subject s) = false
is_done (place.Predicate s p) = false
is_done (place.Form s p form) = false
is_done (place.Typed s p form) = false
is_done (place.Object s p c) = false
is_done (place.Label s p c g) = false

whole : Next → Bool
whole (next.StatementState p) = is_done p
whole (next.Quad q) = true

is_dot : Part → Bool
is_dot part.Dot = true
is_dot (part.Iri i) = false
is_dot (part.Blank n) = false
is_dot (part.Form f) = false
is_dot (part.Tag t) = false
is_dot part.Carets = false
is_dot part.LineEnd = false

abbrev Goes : Next → Type 0
Goes n = whole n ≡ false

literal_goes : (s : Node) (p : List ℕ) (r : Result Literal TermFault) → IfOk (with_literal s p r) Goes
unfolding whole is_done
literal_goes s p (Ok l) = refl
literal_goes s p (Err f) = tt

by_others : (p : StatementState) (t : Part) → is_dot t ≡ false → IfOk (after p t) Goes
unfolding whole is_done is_dot
by_others p part.Dot e = absurd (true≢false e)
by_others place.Start (part.Iri i) e = refl
by_others place.Start (part.Blank n) e = refl
by_others place.Start part.LineEnd e = refl
by_others (place.Subject s) (part.Iri i) e = refl
by_others (place.Predicate s p) (part.Iri i) e = refl
by_others (place.Predicate s p) (part.Blank n) e = refl
by_others (place.Predicate s p) (part.Form f) e = refl
by_others (place.Form s p form) (part.Tag t) e = literal_goes s p _
by_others (place.Form s p form) part.Carets e = refl
by_others (place.Form s p form) (part.Iri i) e = refl
by_others (place.Form s p form) (part.Blank n) e = refl
by_others (place.Typed s p form) (part.Iri i) e = literal_goes s p _
by_others (place.Object s p c) (part.Iri i) e = refl
by_others (place.Object s p c) (part.Blank n) e = refl
by_others place.Done part.LineEnd e = refl
by_others p t e = tt

dot_is : (t : Part) → is_dot t ≡ true → t ≡ part.Dot
unfolding is_dot
dot_is part.Dot e = refl
dot_is (part.Iri i) e = absurd (true≢false (sym e))
dot_is (part.Blank n) e = absurd (true≢false (sym e))
dot_is (part.Form f) e = absurd (true≢false (sym e))
dot_is (part.Tag t) e = absurd (true≢false (sym e))
dot_is part.Carets e = absurd (true≢false (sym e))
dot_is part.LineEnd e = absurd (true≢false (sym e))

arrives_whole : (quads : List Statement) (n : Next) → is_done (arrive quads n).place ≡ whole n
unfolding whole is_done
arrives_whole quads (next.StatementState p) = refl
arrives_whole quads (next.Quad q) = refl

done_is : is_done place.Done ≡ true
unfolding is_done
done_is = refl

start_is : is_done place.Start ≡ false
unfolding is_done
start_is = refl

by_dot : (p : StatementState) (quads : List Statement) (t : Part) (n : Next) → after p t ≡ Ok n → (arrive quads n).place ≡ place.Done → t ≡ part.Dot
by_dot p quads t n e d = by (is_dot t) refl where
  by : (b : Bool) → is_dot t ≡ b → t ≡ part.Dot
  by true h = dot_is t h
  by false h =
      let goes_on : whole n ≡ false = subst (λ z. IfOk z Goes) e (by_others p t h) in
      absurd (true≢false (sym (sym (arrives_whole quads n) ∙ (ap is_done d ∙ done_is)) ∙ goes_on))

-- ---- a dot is one byte

module _ (n : Numbering) (x : List ℕ) (o : Numbering) where
  other : (t : Part) → is_dot t ≡ false → ◌≡◌ {A = Made} (Ok (t, n)) (Ok (part.Dot, o)) → ⊥
  unfolding is_dot
  other t h e = true≢false (sym (ap is_dot (ap (λ (z : Part × Numbering). z.0) (ok_part (t, n) (part.Dot, o) e))) ∙ h)

  iri_other : (r : Result (List ℕ) TermFault) → iri_part n r ≡ Ok (part.Dot, o) → ⊥
  unfolding is_dot
  iri_other (Ok i) e = other (part.Iri i) refl e
  iri_other (Err f) e = err_ok_part _ (part.Dot, o) e

  dot_class : (k : Class) → said n k x ≡ Ok (part.Dot, o) → k ≡ class.Dot
  unfolding is_dot
  dot_class class.Dot e = refl
  dot_class class.Iri e = absurd (iri_other _ e)
  dot_class class.String e = absurd (other _ refl e)
  dot_class class.Tag e = absurd (other _ refl e)
  dot_class class.Label e =
      let b : (b : ℕ) × (part.Dot ≡ part.Blank b) = blank_is (number n (behind x 2)) part.Dot o e in
      absurd (true≢false (ap is_dot b.1))
  dot_class class.Carets e = absurd (other _ refl e)
  dot_class class.LineEnd e = absurd (other _ refl e)
  dot_class class.Open e = absurd (err_ok_part _ (part.Dot, o) e)
  dot_class class.Broken e = absurd (err_ok_part _ (part.Dot, o) e)

-- ---- so the place of the dot is known

module _ (bytes : List ℕ) (first : ℕ) (u : IsUtf8 bytes) where
  before_dot : (s t : State) (b : Been bytes first s) → Comes (start first bytes) s → step s ≡ goes t → t.reading.place ≡ place.Done → ComesTo (start first bytes) (length t.rest + 1)
  before_dot s t b c e d = by (token_of b.place b.labels b.rest b.utf8 t (subst (λ z. step z ≡ goes t) b.state e)) where
    by : Next_token b.place b.labels b.rest b.utf8 t → ComesTo (start first bytes) (length t.rest + 1)
    by (a, o, more, k, is) =
        let done : (arrive b.place.quads k.next).place ≡ place.Done = ap (λ (z : At). z.place) (sym k.place) ∙ (ap (λ (z : State). z.reading.place) (sym is) ∙ d) in
        let dot : k.part ≡ part.Dot = by_dot b.place.place b.place.quads k.part k.next k.goes_on done in
        let kind : k.class ≡ class.Dot = dot_class b.labels (encode_utf8_all k.front.front) o k.class (subst (λ z. said b.labels k.class (encode_utf8_all k.front.front) ≡ Ok (z, o)) dot k.says) in
        let spells : Spells (char 46) k.front.front = subst (λ z. Spells (form_of z) k.front.front) kind (spelled k.class k.front.front k.front.token) in
        let one : length (encode_utf8_all k.front.front) ≡ 1 = ap (λ z. length (encode_utf8_all z)) (this_char 46 k.front.front spells) ∙ ap (λ z. length (z ++ [])) (encode_ascii 46 (omega arith)) in
        let size : length (behind_gap b.rest) ≡ length (encode_utf8_all k.front.front) + length (encode_utf8_all k.front.rest) =
        ap length (split b.rest b.utf8 k.class k.len k.front) ∙ length-append (encode_utf8_all k.front.front) (encode_utf8_all k.front.rest) in
        let rest : length t.rest ≡ length (encode_utf8_all k.front.rest) = ap (λ (z : State). length z.rest) is ∙ ap length k.left in
        let there : length (behind_gap s.rest) ≡ length (behind_gap b.rest) = ap (λ (z : State). length (behind_gap z.rest)) b.state in
        (s, c, omega (arith, there, size, one, rest), omega arith)

  pub after_statement : (t : State) → Comes (start first bytes) t → t.reading.place ≡ place.Done → ComesTo (start first bytes) (length t.rest + 1)
  after_statement _ here d = absurd (true≢false (sym done_is ∙ (ap is_done (sym d) ∙ start_is)))
  after_statement _ (on s t c e) d = before_dot s t (been bytes first u s c) c e d
