-- Parts that have no place after others.
use Rattle.std.proofs.Common.{◌≡◌, ◌⊎◌, inl, inr, ℕ, true, List, [], ◌∷◌, ◌++◌, Result, Ok, Err, refl, sym, ap, ◌∙◌, subst, append_assoc, true≢false}
use Rattle.std.specs.Prelude.{IfErr, if◌then◌else◌}
use Rattle.qs_terms.specs.Literal.{Literal, xsd_string, typed, tagged, checked_typed, checked_tagged}
use Rattle.qs_terms.specs.Statement.{Statement}
use Rattle.qs_terms.specs.Tag.{is_tag}
use Rattle.qs_terms.specs.declared.fault.TermFault.{TermFault}
use Rattle.qs_terms.specs.declared.fault.TermFault.TheVariants.{BadTag}
use Rattle.qs_terms.specs.declared.term.Term.TheVariants as term
use Rattle.qs_nquads.specs.Nquads.{TakesBlank, IsBadType}
use Rattle.qs_nquads.specs.inner.Next.{Next}
use Rattle.qs_nquads.specs.inner.Next as next
use Rattle.qs_nquads.specs.inner.PartAt.{takes_label}
use Rattle.qs_nquads.specs.inner.StatementState.{with_literal, after}
use Rattle.qs_nquads.specs.declared.fault.NqFaultKind.{NqFaultKind}
use Rattle.qs_nquads.specs.declared.fault.NqFaultKind.TheVariants as fault
use Rattle.qs_nquads.specs.declared.node.Node.{Node}
use Rattle.qs_nquads.specs.declared.node.Node.TheVariants as name
use Rattle.qs_nquads.specs.declared.part.Part.{Part}
use Rattle.qs_nquads.specs.declared.part.Part.TheVariants as part
use Rattle.qs_nquads.specs.declared.statement_state.StatementState.{StatementState}
use Rattle.qs_nquads.specs.declared.statement_state.StatementState.TheVariants as place
use Rattle.qs_nquads.proofs.Documents.{At, at, begin, arrive, Runs, runs_split, next_one, Split, runs_split_off, goes_begun, begun_goes}

pub err_ok : (f : NqFaultKind) (n : Next) → ◌≡◌ {A = Result Next NqFaultKind} (Err f) (Ok n) → ⊥
err_ok f n e = cc

-- ---- blank nodes

blank_goes : (p : StatementState) (b : ℕ) → takes_label p ≡ true → (n : Next) × (after p (part.Blank b) ≡ Ok n)
blank_goes place.Start b e = (next.StatementState (place.Subject (name.Blank b)), refl)
blank_goes (place.Subject s) b e = absurd (true≢false (sym e))
blank_goes (place.Predicate s p) b e = (next.StatementState (place.Object s p (term.Blank b)), refl)
blank_goes (place.Form s p form) b e = (next.StatementState (place.Label s p (term.Literal (typed form xsd_string)) (name.Blank b)), refl)
blank_goes (place.Typed s p form) b e = absurd (true≢false (sym e))
blank_goes (place.Object s p c) b e = (next.StatementState (place.Label s p c (name.Blank b)), refl)
blank_goes (place.Label s p c g) b e = absurd (true≢false (sym e))
blank_goes place.Done b e = absurd (true≢false (sym e))

pub blank_fits : (p : StatementState) (b : ℕ) (n : Next) → after p (part.Blank b) ≡ Ok n → takes_label p ≡ true
blank_fits place.Start b n e = refl
blank_fits (place.Subject s) b n e = absurd (err_ok fault.Shape n e)
blank_fits (place.Predicate s p) b n e = refl
blank_fits (place.Form s p form) b n e = refl
blank_fits (place.Typed s p form) b n e = absurd (err_ok fault.Shape n e)
blank_fits (place.Object s p c) b n e = refl
blank_fits (place.Label s p c g) b n e = absurd (err_ok fault.Shape n e)
blank_fits place.Done b n e = absurd (err_ok fault.Shape n e)

module _ (ps : List Part) (a : At) (r : Runs begin ps a) where
  pub takes_blank : TakesBlank ps → takes_label a.place ≡ true
  takes_blank h = let m = begun_goes ps a r (part.Blank h.0) h.1 in blank_fits a.place h.0 m.0 m.1

  pub blank_taken : takes_label a.place ≡ true → TakesBlank ps
  blank_taken e = let m = blank_goes a.place 0 e in (0, goes_begun ps a r (part.Blank 0) m.0 m.1)

-- ---- datatypes that no literal may have

abbrev ToTyped : List Statement → List ℕ → Next → Next → Type 0
ToTyped qs form n m = (s : Node) × (p : List ℕ) × (arrive (arrive qs n).quads m ≡ at (place.Typed s p form) qs)

typed_place : (p : StatementState) (qs : List Statement) (form : List ℕ) (n m : Next) → after p (part.Form form) ≡ Ok n → after (arrive qs n).place part.Carets ≡ Ok m → ToTyped qs form n m
typed_place (place.Predicate s p) qs form n m e h =
    let same : next.StatementState (place.Form s p form) ≡ n = next_one (next.StatementState (place.Form s p form)) n e in
    let same_too : next.StatementState (place.Typed s p form) ≡ m = next_one (next.StatementState (place.Typed s p form)) m (subst (λ z. after (arrive qs z).place part.Carets ≡ Ok m) (sym same) h) in
    (s, p, ap (λ z. arrive (arrive qs z).quads m) (sym same) ∙ ap (arrive qs) (sym same_too))
typed_place place.Start qs form n m e h = absurd (err_ok fault.Shape n e)
typed_place (place.Subject s) qs form n m e h = absurd (err_ok fault.Shape n e)
typed_place (place.Form s p f) qs form n m e h = absurd (err_ok fault.Shape n e)
typed_place (place.Typed s p f) qs form n m e h = absurd (err_ok fault.Shape n e)
typed_place (place.Object s p c) qs form n m e h = absurd (err_ok fault.Shape n e)
typed_place (place.Label s p c g) qs form n m e h = absurd (err_ok fault.Shape n e)
typed_place place.Done qs form n m e h = absurd (err_ok fault.Shape n e)

typed_fails : (a : At) (s : Node) (p form i : List ℕ) (qs : List Statement) (t : Part) (f : TermFault) → a ≡ at (place.Typed s p form) qs → t ≡ part.Iri i → checked_typed form i ≡ Err f → after a.place t ≡ Err fault.Literal
typed_fails a s p form i qs t f there is e = ap (λ (z : At). after z.place t) there ∙ (ap (after (place.Typed s p form)) is ∙ ap (with_literal s p) e)

pub bad_type_fails : (ps : List Part) (a : At) (t : Part) → Runs begin ps a → IsBadType ps t → after a.place t ≡ Err fault.Literal
bad_type_fails ps a t r (before, form, i, f, e, is, refused) = by (runs_split begin a before (part.Form form ∷ part.Carets ∷ []) (subst (λ z. Runs begin z a) e r)) where
  by : (b : At) × Runs begin before b × Runs b (part.Form form ∷ part.Carets ∷ []) a → after a.place t ≡ Err fault.Literal
  by (b, first, (n, g, (m, h, same))) =
      let d : ToTyped b.quads form n m = typed_place b.place b.quads form n m g h in
      typed_fails a d.0 d.1 form i b.quads t f (sym same ∙ d.2) is refused

-- ---- the fault of a part

abbrev pub Refuses : StatementState → Part → Type 0
Refuses (place.Typed s p form) (part.Iri i) = (g : TermFault) × (checked_typed form i ≡ Err g)
Refuses (place.Form s p form) (part.Tag t) = (g : TermFault) × (checked_tagged form t ≡ Err g)
Refuses p t = ⊥

abbrev pub Refused : Type 0 → NqFaultKind → Type 0
Refused P f = (f ≡ fault.Shape) ⊎ ((f ≡ fault.Literal) × P)

literal_fault : (s : Node) (p : List ℕ) (P : Type 0) (r : Result Literal TermFault) → ((g : TermFault) → r ≡ Err g → P) → IfErr (with_literal s p r) (Refused P)
literal_fault s p P (Ok l) k = tt
literal_fault s p P (Err g) k = inr (refl, k g refl)

pub after_fault : (p : StatementState) (t : Part) → IfErr (after p t) (Refused (Refuses p t))
after_fault place.Start (part.Iri i) = tt
after_fault place.Start (part.Blank n) = tt
after_fault place.Start part.LineEnd = tt
after_fault place.Start (part.Form f) = inl refl
after_fault place.Start (part.Tag x) = inl refl
after_fault place.Start part.Carets = inl refl
after_fault place.Start part.Dot = inl refl
after_fault (place.Subject s) (part.Iri i) = tt
after_fault (place.Subject s) (part.Blank n) = inl refl
after_fault (place.Subject s) part.LineEnd = inl refl
after_fault (place.Subject s) (part.Form f) = inl refl
after_fault (place.Subject s) (part.Tag x) = inl refl
after_fault (place.Subject s) part.Carets = inl refl
after_fault (place.Subject s) part.Dot = inl refl
after_fault (place.Predicate s p) (part.Iri i) = tt
after_fault (place.Predicate s p) (part.Blank n) = tt
after_fault (place.Predicate s p) (part.Form f) = tt
after_fault (place.Predicate s p) part.LineEnd = inl refl
after_fault (place.Predicate s p) (part.Tag x) = inl refl
after_fault (place.Predicate s p) part.Carets = inl refl
after_fault (place.Predicate s p) part.Dot = inl refl
after_fault (place.Form s p form) (part.Tag x) = literal_fault s p ((g : TermFault) × (checked_tagged form x ≡ Err g)) (checked_tagged form x) (λ g e. (g, e))
after_fault (place.Form s p form) part.Carets = tt
after_fault (place.Form s p form) (part.Iri i) = tt
after_fault (place.Form s p form) (part.Blank n) = tt
after_fault (place.Form s p form) part.Dot = tt
after_fault (place.Form s p form) part.LineEnd = inl refl
after_fault (place.Form s p form) (part.Form f) = inl refl
after_fault (place.Typed s p form) (part.Iri i) = literal_fault s p ((g : TermFault) × (checked_typed form i ≡ Err g)) (checked_typed form i) (λ g e. (g, e))
after_fault (place.Typed s p form) (part.Blank n) = inl refl
after_fault (place.Typed s p form) part.LineEnd = inl refl
after_fault (place.Typed s p form) (part.Form f) = inl refl
after_fault (place.Typed s p form) (part.Tag x) = inl refl
after_fault (place.Typed s p form) part.Carets = inl refl
after_fault (place.Typed s p form) part.Dot = inl refl
after_fault (place.Object s p c) (part.Iri i) = tt
after_fault (place.Object s p c) (part.Blank n) = tt
after_fault (place.Object s p c) part.Dot = tt
after_fault (place.Object s p c) part.LineEnd = inl refl
after_fault (place.Object s p c) (part.Form f) = inl refl
after_fault (place.Object s p c) (part.Tag x) = inl refl
after_fault (place.Object s p c) part.Carets = inl refl
after_fault (place.Label s p c g) part.Dot = tt
after_fault (place.Label s p c g) (part.Iri i) = inl refl
after_fault (place.Label s p c g) (part.Blank n) = inl refl
after_fault (place.Label s p c g) part.LineEnd = inl refl
after_fault (place.Label s p c g) (part.Form f) = inl refl
after_fault (place.Label s p c g) (part.Tag x) = inl refl
after_fault (place.Label s p c g) part.Carets = inl refl
after_fault place.Done part.LineEnd = tt
after_fault place.Done (part.Iri i) = inl refl
after_fault place.Done (part.Blank n) = inl refl
after_fault place.Done (part.Form f) = inl refl
after_fault place.Done (part.Tag x) = inl refl
after_fault place.Done part.Carets = inl refl
after_fault place.Done part.Dot = inl refl

-- a tag that was read is one in the eyes of the terms too
abbrev pub IsLawful : Part → Type 0
IsLawful (part.Tag x) = is_tag x ≡ true
IsLawful (part.Iri i) = Unit {0}
IsLawful (part.Blank n) = Unit {0}
IsLawful (part.Form f) = Unit {0}
IsLawful part.Carets = Unit {0}
IsLawful part.Dot = Unit {0}
IsLawful part.LineEnd = Unit {0}

tag_passes : (form x : List ℕ) (g : TermFault) → is_tag x ≡ true → checked_tagged form x ≡ Err g → ⊥
tag_passes form x g l e =
    let ok : checked_tagged form x ≡ Ok (tagged form x) = ap (λ b. if b then (Ok (tagged form x)) else (Err BadTag)) l in
    let both : ◌≡◌ {A = Result Literal TermFault} (Ok (tagged form x)) (Err g) = sym ok ∙ e in cc

bad_type : (p : StatementState) (ps : List Part) (qs : List Statement) (t : Part) → Split p ps qs → IsLawful t → Refuses p t → IsBadType ps t
bad_type (place.Typed s p form) ps qs (part.Iri i) h l k =
    let o = h.open_parts in (
      h.whole ++ (o.0 ∷ part.Iri p ∷ []),
      form,
      i,
      k.0,
      h.parts ∙ (ap (λ z. h.whole ++ z) o.2 ∙ sym (append_assoc h.whole (o.0 ∷ part.Iri p ∷ []) (part.Form form ∷ part.Carets ∷ []))),
      refl,
      k.1,
    )
bad_type (place.Form s p form) ps qs (part.Tag x) h l k = absurd (tag_passes form x k.0 l k.1)
bad_type p ps qs t h l k = absurd k

pub refused_type : (ps : List Part) (a : At) (t : Part) → Runs begin ps a → IsLawful t → Refuses a.place t → IsBadType ps t
refused_type ps a t r l k = bad_type a.place ps a.quads t (runs_split_off ps a r) l k
