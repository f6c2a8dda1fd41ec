-- A token of a text: what the longest front of the characters says, and what reading makes of the bytes.
use Rattle.std.proofs.Common.{◌≡◌, ◌⊎◌, inl, inr, ◌<◌, ◌≤◌, ℕ, Bool, true, false, List, [], ◌∷◌, ◌++◌, length, take, drop, Option, Some, None, Result, Ok, Err, refl, sym, ap, ◌∙◌, subst, arith, IsUtf8, chars, encode_utf8_all, drop_at}
use Rattle.std.specs.Prelude.{if◌then◌else◌}
use Rattle.std.specs.Str.{all_scalars}
use Rattle.std.proofs.lemmas.List.{take-append-le, take_all}
use Rattle.std.proofs.lemmas.Str.{encodes-append, scalars-chars, chars-encodes, length-le-encodes}
use Rattle.qs_lex_regular.specs.Longest.{IsFirst, HasNoFront, LongestFront}
use Rattle.qs_lex_regular.specs.inner.Best.{best}
use Rattle.qs_lex_regular.proofs.Longest.{best-some, best-none, one_class}
use Rattle.qs_terms.specs.Statement.{Statement}
use Rattle.qs_terms.specs.Tag.{is_tag}
use Rattle.qs_terms.specs.declared.fault.TermFault.{TermFault}
use Rattle.qs_nquads.specs.Gap.{skip}
use Rattle.qs_nquads.specs.inner.Gap.{behind_gap}
use Rattle.qs_nquads.specs.Labels.{Numbering, number}
use Rattle.qs_nquads.specs.Part.{said}
use Rattle.qs_nquads.specs.inner.Part.{iri_part, blank_part, behind}
use Rattle.qs_nquads.specs.Table.{table}
use Rattle.qs_nquads.specs.inner.Next.{Next}
use Rattle.qs_nquads.specs.inner.Next as next
use Rattle.qs_nquads.specs.inner.PartAt.{takes_label, label_part, part_of}
use Rattle.qs_nquads.specs.inner.Reading.{Reading, State, ends, stops, stepped, step_from, step_over, step, read, placed}
use Rattle.qs_nquads.specs.inner.StatementState.{after, may_end}
use Rattle.qs_nquads.specs.declared.class.Class.{Class}
use Rattle.qs_nquads.specs.declared.class.Class.TheVariants as class
use Rattle.qs_nquads.specs.declared.fault.NqFaultKind.{NqFaultKind}
use Rattle.qs_nquads.specs.declared.fault.NqFaultKind.TheVariants as fault
use Rattle.qs_nquads.specs.declared.part.Part.{Part}
use Rattle.qs_nquads.specs.declared.part.Part.TheVariants as part
use Rattle.qs_nquads.specs.declared.statement_state.StatementState.{StatementState}
use Rattle.qs_nquads.proofs.Documents.{At, arrive}
use Rattle.qs_nquads.proofs.Fronts.{Front, front_of, scalars_back}
use Rattle.qs_nquads.proofs.PartFaults.{IsLawful, blank_fits}
use Rattle.qs_nquads.proofs.SomeOutcome.{Gap, gap}
use Rattle.qs_nquads.proofs.Steps.{at_front}
use Rattle.qs_nquads.proofs.TakenTags as tags

-- ---- one longest front

same_front : (cs x y u v : List ℕ) → cs ≡ x ++ u → cs ≡ y ++ v → length x ≤ length y → length y ≤ length x → x ≡ y
same_front cs x y u v e f l m =
    let n : length x ≡ length y = omega arith in
    let a : take (length x) (x ++ u) ≡ x = take-append-le (length x) x u (omega arith) ∙ take_all (length x) x (omega arith) in
    let b : take (length y) (y ++ v) ≡ y = take-append-le (length y) y v (omega arith) ∙ take_all (length y) y (omega arith) in
    sym a ∙ (ap (λ z. take (length x) z) (sym e ∙ f) ∙ (ap (λ k. take k (y ++ v)) n ∙ b))

best_of : (cs : List ℕ) (k : Class) (n : ℕ) → LongestFront table cs k n → best table cs ≡ Some (k, n)
best_of cs k n f = by (best table cs) refl where
  by : (o : Option (Class × ℕ)) → best table cs ≡ o → best table cs ≡ Some (k, n)
  by None e = absurd (best-none table cs e k f.front f.rest f.text f.token)
  by (Some t) e =
      let g : LongestFront table cs t.0 t.1 = best-some table cs t.0 t.1 e in
      let same : g.front ≡ f.front = same_front cs g.front f.front g.rest f.rest g.text f.text (f.longest t.0 g.front g.rest g.text g.token) (g.longest k f.front f.rest f.text f.token) in
      let kind : t.0 ≡ k = one_class table t.0 k f.front (subst (λ z. IsFirst table t.0 z) same g.token) f.token in
      let size : t.1 ≡ n = g.bytes ∙ (ap (λ z. length (encode_utf8_all z)) same ∙ sym f.bytes) in
      let pair : (a b : Class) (i j : ℕ) → a ≡ b → i ≡ j → ◌≡◌ {A = Option (Class × ℕ)} (Some (a, i)) (Some (b, j)) = (λ a b i j x y. cc) in
      e ∙ pair t.0 k t.1 n kind size

-- ---- what a token says, at a place

read_at : At → Numbering → Reading
read_at a n = record { place = a.place; labels = n; quads = a.quads }

abbrev pub state_of : At → Numbering → List ℕ → State
state_of a n rest = record { reading = record { place = a.place; labels = n; quads = a.quads }; rest = rest }

abbrev Made : Type 0
Made = Result (Part × Numbering) NqFaultKind

pub ok_part : (a b : Part × Numbering) → ◌≡◌ {A = Made} (Ok a) (Ok b) → a ≡ b
ok_part a b e = cc

pub err_ok_part : (f : NqFaultKind) (a : Part × Numbering) → ◌≡◌ {A = Made} (Err f) (Ok a) → ⊥
err_ok_part f a e = cc

err_part : (f g : NqFaultKind) → ◌≡◌ {A = Made} (Err f) (Err g) → f ≡ g
err_part f g e = cc

ok_err_part : (a : Part × Numbering) (f : NqFaultKind) → ◌≡◌ {A = Made} (Ok a) (Err f) → ⊥
ok_err_part a f e = cc

pub blank_is : (r : Result (ℕ × Numbering) NqFaultKind) (p : Part) (o : Numbering) → blank_part r ≡ Ok (p, o) → (b : ℕ) × (p ≡ part.Blank b)
blank_is (Ok k) p o e = (k.0, sym (ap (λ (z : Part × Numbering). z.0) (ok_part (part.Blank k.0, k.1) (p, o) e)))
blank_is (Err f) p o e = absurd (err_ok_part f (p, o) e)

module _ (pl : StatementState) (n : Numbering) (x : List ℕ) where
  pub at_place : (k : Class) (p : Part) (o : Numbering) (m : Next) → said n k x ≡ Ok (p, o) → after pl p ≡ Ok m → part_of pl n k x ≡ Ok (p, o)
  at_place class.Iri p o m e h = e
  at_place class.String p o m e h = e
  at_place class.Tag p o m e h = e
  at_place class.Label p o m e h =
      let b : (b : ℕ) × (p ≡ part.Blank b) = blank_is (number n (behind x 2)) p o e in
      let fits : takes_label pl ≡ true = blank_fits pl b.0 m (subst (λ z. after pl z ≡ Ok m) b.1 h) in
      ap (λ t. label_part n t (behind x 2)) fits ∙ e
  at_place class.Carets p o m e h = e
  at_place class.Dot p o m e h = e
  at_place class.LineEnd p o m e h = e
  at_place class.Open p o m e h = e
  at_place class.Broken p o m e h = e

  label_said : (t : Bool) (p : Part) (o : Numbering) → label_part n t (behind x 2) ≡ Ok (p, o) → blank_part (number n (behind x 2)) ≡ Ok (p, o)
  label_said true p o e = e
  label_said false p o e = absurd (err_ok_part fault.Shape (p, o) e)

  pub is_said : (k : Class) (p : Part) (o : Numbering) → part_of pl n k x ≡ Ok (p, o) → said n k x ≡ Ok (p, o)
  is_said class.Iri p o e = e
  is_said class.String p o e = e
  is_said class.Tag p o e = e
  is_said class.Label p o e = label_said (takes_label pl) p o e
  is_said class.Carets p o e = e
  is_said class.Dot p o e = e
  is_said class.LineEnd p o e = e
  is_said class.Open p o e = e
  is_said class.Broken p o e = e

iri_lawful : (n : Numbering) (r : Result (List ℕ) TermFault) (p : Part) (o : Numbering) → iri_part n r ≡ Ok (p, o) → IsLawful p
iri_lawful n (Ok i) p o e = subst IsLawful (ap (λ (z : Part × Numbering). z.0) (ok_part (part.Iri i, n) (p, o) e)) tt
iri_lawful n (Err f) p o e = absurd (err_ok_part fault.Iri (p, o) e)

this_lawful : (n : Numbering) (t p : Part) (o : Numbering) → IsLawful t → ◌≡◌ {A = Made} (Ok (t, n)) (Ok (p, o)) → IsLawful p
this_lawful n t p o l e = subst IsLawful (ap (λ (z : Part × Numbering). z.0) (ok_part (t, n) (p, o) e)) l

said_lawful : (n : Numbering) (k : Class) (x : List ℕ) (p : Part) (o : Numbering) → (k ≡ class.Tag → is_tag (behind x 1) ≡ true) → said n k x ≡ Ok (p, o) → IsLawful p
said_lawful n class.Iri x p o l e = iri_lawful n _ p o e
said_lawful n class.String x p o l e = this_lawful n (part.Form _) p o tt e
said_lawful n class.Tag x p o l e = this_lawful n (part.Tag (behind x 1)) p o (l refl) e
said_lawful n class.Label x p o l e = let b : (b : ℕ) × (p ≡ part.Blank b) = blank_is (number n (behind x 2)) p o e in subst IsLawful (sym b.1) tt
said_lawful n class.Carets x p o l e = this_lawful n part.Carets p o tt e
said_lawful n class.Dot x p o l e = this_lawful n part.Dot p o tt e
said_lawful n class.LineEnd x p o l e = this_lawful n part.LineEnd p o tt e
said_lawful n class.Open x p o l e = absurd (err_ok_part fault.Token (p, o) e)
said_lawful n class.Broken x p o l e = absurd (err_ok_part fault.Escape (p, o) e)

-- ---- one front, as bytes

placed_arrive : (quads : List Statement) (o : Numbering) (m : Next) → placed quads o (Ok m) ≡ Ok (record { place = (arrive quads m).place; labels = o; quads = (arrive quads m).quads })
placed_arrive quads o (next.StatementState p) = refl
placed_arrive quads o (next.Quad q) = refl

module _ (rest : List ℕ) (u : IsUtf8 rest) where
  abbrev left : List ℕ
  left = skip false (chars rest)

  pub left_scalars : all_scalars left ≡ true
  left_scalars = let g : Gap false (chars rest) = gap false (chars rest) in scalars_back g.0 left (subst (λ z. all_scalars z ≡ true) g.1 (scalars-chars rest u))

  pub left_chars : chars (behind_gap rest) ≡ left
  left_chars = chars-encodes left left_scalars

  left_utf8 : IsUtf8 (behind_gap rest)
  left_utf8 = (left, (left_scalars, refl))

  module _ (k : Class) (len : ℕ) (f : LongestFront table left k len) where
    found : best table (chars (behind_gap rest)) ≡ Some (k, len)
    found = ap (λ z. best table z) left_chars ∙ best_of left k len f

    pub split : behind_gap rest ≡ encode_utf8_all f.front ++ encode_utf8_all f.rest
    split = ap (λ z. encode_utf8_all z) f.text ∙ encodes-append f.front f.rest

    token_is : take len (behind_gap rest) ≡ encode_utf8_all f.front
    token_is =
        ap (λ z. take len z) split ∙ (ap (λ m. take m (encode_utf8_all f.front ++ encode_utf8_all f.rest)) f.bytes
        ∙ (take-append-le (length (encode_utf8_all f.front)) (encode_utf8_all f.front) (encode_utf8_all f.rest) (omega arith)
        ∙ take_all (length (encode_utf8_all f.front)) (encode_utf8_all f.front) (omega arith)))

    rest_is : drop len (behind_gap rest) ≡ encode_utf8_all f.rest
    rest_is = ap (λ z. drop len z) split ∙ drop_at (encode_utf8_all f.front) (encode_utf8_all f.rest) len (sym f.bytes)

    pub rest_scalars : all_scalars f.rest ≡ true
    rest_scalars = scalars_back f.front f.rest (subst (λ z. all_scalars z ≡ true) f.text left_scalars)

    some_left : 0 < length (behind_gap rest)
    some_left = let g : Front (behind_gap rest) len = front_of (behind_gap rest) k len left_utf8 found in omega (arith, g.some, g.boundary.0)

    pub by_token : (a : At) (n : Numbering)
        → step (state_of a n rest) ≡ stepped (behind_gap rest) (encode_utf8_all f.rest) (read (record { place = a.place; labels = n; quads = a.quads }) k (encode_utf8_all f.front))
    by_token a n =
        let r : Reading = record { place = a.place; labels = n; quads = a.quads } in
        at_front r (behind_gap rest) some_left ∙ (ap (λ z. step_over r (behind_gap rest) z) found
        ∙ (ap (λ z. stepped (behind_gap rest) z (read r k (take len (behind_gap rest)))) rest_is ∙ ap (λ z. stepped (behind_gap rest) (encode_utf8_all f.rest) (read r k z)) token_is))

    lawful_tag : k ≡ class.Tag → is_tag (behind (encode_utf8_all f.front) 1) ≡ true
    lawful_tag e =
        let l : LongestFront table (chars (behind_gap rest)) class.Tag len = subst (λ z. LongestFront table z class.Tag len) (sym left_chars) (subst (λ z. LongestFront table left z len) e f) in
        subst (λ z. is_tag (behind z 1) ≡ true) token_is (tags.lawful (behind_gap rest) len left_utf8 l)

    pub lawful : (n : Numbering) (p : Part) (o : Numbering) → said n k (encode_utf8_all f.front) ≡ Ok (p, o) → IsLawful p
    lawful n p o e = said_lawful n k (encode_utf8_all f.front) p o lawful_tag e

  -- where no front is of a class
  pub by_none : (a : At) (n : Numbering) → 0 < length left → HasNoFront table left → step (state_of a n rest) ≡ stops fault.Token (behind_gap rest)
  by_none a n s h =
      let r : Reading = record { place = a.place; labels = n; quads = a.quads } in
      let some : 0 < length (behind_gap rest) = omega (arith, s, length-le-encodes left) in
      at_front r (behind_gap rest) some ∙ ap (λ z. step_over r (behind_gap rest) z) (ap (λ z. best table z) left_chars ∙ by (best table left) refl) where
        by : (o : Option (Class × ℕ)) → best table left ≡ o → best table left ≡ None
        by None e = e
        by (Some t) e = let f : LongestFront table left t.0 t.1 = best-some table left t.0 t.1 e in absurd (h t.0 f.front f.rest f.text f.token)

  -- where nothing is left
  pub by_end : (a : At) (n : Numbering) → left ≡ [] → step (state_of a n rest) ≡ (if may_end a.place then ends else stops fault.Shape [])
  by_end a n e = ap (λ z. step_from (record { place = a.place; labels = n; quads = a.quads }) (encode_utf8_all z)) e

  -- these are all the cases
  abbrev pub Cases : Type 0
  Cases = (left ≡ []) ⊎ (((0 < length left) × HasNoFront table left) ⊎ ((k : Class) × (len : ℕ) × LongestFront table left k len))

  pub cases : Cases
  cases = by left refl where
    found_or_none : (o : Option (Class × ℕ)) → best table left ≡ o → 0 < length left → Cases
    found_or_none None e s = inr (inl (s, best-none table left e))
    found_or_none (Some t) e s = inr (inr (t.0, t.1, best-some table left t.0 t.1 e))

    by : (cs : List ℕ) → left ≡ cs → Cases
    by [] e = inl e
    by (c ∷ cs) e = found_or_none (best table left) refl (let l : length left ≡ length (c ∷ cs) = ap length e in omega (arith, l))
