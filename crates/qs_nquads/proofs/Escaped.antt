-- Escaped strings: UTF-8, and decoded to what they were.
use Rattle.std.proofs.Common.{◌≡◌, ℕ, suc, ◌<◌, ◌≤◌, true, false, ◌==◌, List, [], ◌∷◌, ◌++◌, length, get_or, inl, inr, refl, sym, ap, ap₂, ◌∙◌, subst, arith, append_assoc, append-nil}
use Rattle.std.proofs.lemmas.Bool.{and_parts, cases_lt, cases_eq, ne_eqb}
use Rattle.std.proofs.lemmas.Str.{encode_ascii, inside_one, encodes-append}
use lib.Utf8.{scalar, scalars, encode, encodes, low_scalar}
use Rattle.qs_lex_escapes.specs.Escape.{string_escape}
use Rattle.qs_lex_escapes.specs.Decoded.{decoded_after, decoded}
use Rattle.qs_nquads.specs.Written.{escaped_byte}
use Rattle.qs_nquads.specs.inner.Written.{escaped}

-- what holds of the four escapes, and of a byte that denotes itself
pub escape_cases : (P : ℕ → List ℕ → Type 0) → P 34 (92 ∷ 34 ∷ []) → P 92 (92 ∷ 92 ∷ []) → P 10 (92 ∷ 110 ∷ []) → P 13 (92 ∷ 114 ∷ [])
    → ((c : ℕ) → (c == 34) ≡ false → (c == 92) ≡ false → (c == 10) ≡ false → (c == 13) ≡ false → P c (c ∷ [])) → (c : ℕ) → P c (escaped_byte c)
escape_cases P quote slash lf cr plain c =
    elim (cases_eq c 34) [
      | inl e ↦ subst (λ z. P z (escaped_byte z)) (sym e) quote
      | inr n ↦
          elim (cases_eq c 92) [
            | inl e ↦ subst (λ z. P z (escaped_byte z)) (sym e) slash
            | inr m ↦
                elim (cases_eq c 10) [
                  | inl e ↦ subst (λ z. P z (escaped_byte z)) (sym e) lf
                  | inr l ↦
                      elim (cases_eq c 13) [
                        | inl e ↦ subst (λ z. P z (escaped_byte z)) (sym e) cr
                        | inr r ↦
                            (let a : (c == 34) ≡ false = ne_eqb c 34 n in let b : (c == 92) ≡ false = ne_eqb c 92 m in
                            let d : (c == 10) ≡ false = ne_eqb c 10 l in let e : (c == 13) ≡ false = ne_eqb c 13 r in
                            rw (a, b, d, e) (plain c a b d e))
                      ]
                ]
          ]
    ]

-- ---- decoded

abbrev Decodes : ℕ → List ℕ → Type 0
Decodes c e = (r : List ℕ) → decoded_after string_escape 0 (e ++ r) ≡ c ∷ decoded_after string_escape 0 r

one_decodes : (c : ℕ) → Decodes c (escaped_byte c)
unfolding decoded_after encode
one_decodes = escape_cases Decodes (λ r. refl) (λ r. refl) (λ r. refl) (λ r. refl) (λ c a b d e r. rw b refl)

pub decodes : (form : List ℕ) → decoded string_escape (escaped form) ≡ form
unfolding decoded_after
decodes [] = refl
decodes (c ∷ cs) = one_decodes c (escaped cs) ∙ ap (λ z. c ∷ z) (decodes cs)

-- ---- UTF-8

pub escaped-append : (xs ys : List ℕ) → escaped (xs ++ ys) ≡ escaped xs ++ escaped ys
escaped-append [] ys = refl
escaped-append (x ∷ xs) ys = ap (λ l. escaped_byte x ++ l) (escaped-append xs ys) ∙ sym (append_assoc (escaped_byte x) _ _)

plain_high : (c : ℕ) → 128 ≤ c → escaped_byte c ≡ c ∷ []
plain_high c h =
    let a : (c == 34) ≡ false = ne_eqb c 34 (λ e. omega arith) in let b : (c == 92) ≡ false = ne_eqb c 92 (λ e. omega arith) in
    let d : (c == 10) ≡ false = ne_eqb c 10 (λ e. omega arith) in let f : (c == 13) ≡ false = ne_eqb c 13 (λ e. omega arith) in rw (a, b, d, f) refl

escaped_high : (xs : List ℕ) → ((k : ℕ) → k < length xs → 128 ≤ get_or xs k 0) → escaped xs ≡ xs
escaped_high [] h = refl
escaped_high (x ∷ xs) h =
    ap₂ (λ (a b : List ℕ). a ++ b) (plain_high x (h 0 (omega arith))) (escaped_high xs (λ k below. h (suc k) (omega arith)))

abbrev Ascii : ℕ → List ℕ → Type 0
Ascii c e = c < 128 → (encodes e ≡ e) × (scalars e ≡ true)

ascii_escape : (c : ℕ) → Ascii c (escaped_byte c)
unfolding encode
ascii_escape = escape_cases Ascii (λ h. (refl, refl)) (λ h. (refl, refl)) (λ h. (refl, refl)) (λ h. (refl, refl))
    (λ c a b d e h. (let s : scalar c ≡ true = low_scalar c (omega arith) in rw (encode_ascii c h, s) (refl, refl)))

one_char : (c : ℕ) → scalar c ≡ true → (encodes (escaped_byte c) ≡ escaped (encode c)) × (scalars (escaped_byte c) ≡ true)
one_char c ok = elim (cases_lt c 128) [
  | inl small ↦ (let a : (encodes (escaped_byte c) ≡ escaped_byte c) × (scalars (escaped_byte c) ≡ true) = ascii_escape c small in
      (a.0 ∙ (sym (append-nil (escaped_byte c)) ∙ ap escaped (sym (encode_ascii c small))), a.1))
  | inr big ↦
      let high : (k : ℕ) → k < length (encode c) → 128 ≤ get_or (encode c) k 0 = λ k below. elim (cases_lt (get_or (encode c) k 0) 128) [
        | inl low ↦ absurd (omega (arith, inside_one c [] (encode c) k (sym (append-nil _)) below low))
        | inr h ↦ h
      ] in
      (ap encodes (plain_high c big) ∙ (append-nil (encode c) ∙ sym (escaped_high (encode c) high)), ap scalars (plain_high c big) ∙ rw ok refl)
]

pub scalars-append : (xs ys : List ℕ) → scalars xs ≡ true → scalars ys ≡ true → scalars (xs ++ ys) ≡ true
scalars-append [] ys p q = q
scalars-append (x ∷ xs) ys p q = let h : (scalar x ≡ true) × (scalars xs ≡ true) = and_parts _ _ p in rw h.0 (scalars-append xs ys h.1 q)

-- the escaped characters are the escaped bytes
pub escaped_chars : (cs : List ℕ) → scalars cs ≡ true → (encodes (escaped cs) ≡ escaped (encodes cs)) × (scalars (escaped cs) ≡ true)
escaped_chars [] e = (refl, refl)
escaped_chars (c ∷ cs) e =
    let p = and_parts _ _ e in
    let one : (encodes (escaped_byte c) ≡ escaped (encode c)) × (scalars (escaped_byte c) ≡ true) = one_char c p.0 in
    let more : (encodes (escaped cs) ≡ escaped (encodes cs)) × (scalars (escaped cs) ≡ true) = escaped_chars cs p.1 in (
      encodes-append (escaped_byte c) (escaped cs) ∙ (ap₂ (λ (a b : List ℕ). a ++ b) one.0 more.0 ∙ sym (escaped-append (encode c) (encodes cs))),
      scalars-append (escaped_byte c) (escaped cs) one.1 more.1,
    )
