-- The first character of a token.
use Rattle.std.proofs.Common.{◌≡◌, ◌≢◌, ◌⊎◌, ℕ, Bool, true, false, ◌==◌, [], ◌∷◌, refl, sym, ◌∙◌, inl, inr, true≢false, ne_eqb, ◌<◌, ◌≤◌, arith}
use Rattle.std.proofs.lemmas.Bool.Decides.{nat_tests}
use Rattle.std.specs.Int.{is_in_range}
use Rattle.qs_lex_regular.specs.Form.{◌⨾◌, ◌∣◌, char}
use Rattle.qs_lex_regular.specs.Character.{is_base, is_digit, is_letter}
use Rattle.qs_lex.specs.Table.{is_sign}
use Rattle.qs_lex.specs.inner.State.{left}
use Rattle.qs_lex.specs.inner.StringState.{short_body, long_body}
use Rattle.qs_lex.specs.inner.Start.{begun}
use Rattle.qs_lex.specs.declared.token.Class.TheVariants as class
use Rattle.qs_lex.specs.declared.state.State.TheVariants as state
use Rattle.qs_lex.specs.declared.iri_state.IriState.TheVariants as iri
use Rattle.qs_lex.specs.declared.mark_state.MarkState.TheVariants as mark
use Rattle.qs_lex.specs.declared.name_state.NameState.TheVariants as name
use Rattle.qs_lex.specs.declared.number_state.NumberState.TheVariants as number
use Rattle.qs_lex.proofs.Apart.{apart, letter_base, or-cases}

pub begun_60 : begun 60 ≡ left (state.Iri iri.Less)
unfolding begun is_base is_letter is_digit is_sign
begun_60 = refl

pub begun_58 : begun 58 ≡ left (state.Name name.Colon)
unfolding begun is_base is_letter is_digit is_sign
begun_58 = refl

pub begun_95 : begun 95 ≡ left (state.Name name.Underscore)
unfolding begun is_base is_letter is_digit is_sign
begun_95 = refl

pub begun_63 : begun 63 ≡ left (state.Name name.Question)
unfolding begun is_base is_letter is_digit is_sign
begun_63 = refl

pub begun_36 : begun 36 ≡ left (state.Name name.Dollar)
unfolding begun is_base is_letter is_digit is_sign
begun_36 = refl

pub begun_46 : begun 46 ≡ left (state.Number number.Point)
unfolding begun is_base is_letter is_digit is_sign
begun_46 = refl

pub begun_64 : begun 64 ≡ left (state.Name name.At)
unfolding begun is_base is_letter is_digit is_sign
begun_64 = refl

pub begun_123 : begun 123 ≡ left (state.Mark mark.Done)
unfolding begun is_base is_letter is_digit is_sign
begun_123 = refl

pub begun_125 : begun 125 ≡ left (state.Mark mark.Done)
unfolding begun is_base is_letter is_digit is_sign
begun_125 = refl

pub begun_40 : begun 40 ≡ left (state.Mark mark.Done)
unfolding begun is_base is_letter is_digit is_sign
begun_40 = refl

pub begun_41 : begun 41 ≡ left (state.Mark mark.Done)
unfolding begun is_base is_letter is_digit is_sign
begun_41 = refl

pub begun_91 : begun 91 ≡ left (state.Mark mark.Done)
unfolding begun is_base is_letter is_digit is_sign
begun_91 = refl

pub begun_93 : begun 93 ≡ left (state.Mark mark.Done)
unfolding begun is_base is_letter is_digit is_sign
begun_93 = refl

pub begun_44 : begun 44 ≡ left (state.Mark mark.Done)
unfolding begun is_base is_letter is_digit is_sign
begun_44 = refl

pub begun_59 : begun 59 ≡ left (state.Mark mark.Done)
unfolding begun is_base is_letter is_digit is_sign
begun_59 = refl

pub begun_42 : begun 42 ≡ left (state.Mark mark.Done)
unfolding begun is_base is_letter is_digit is_sign
begun_42 = refl

pub begun_47 : begun 47 ≡ left (state.Mark mark.Done)
unfolding begun is_base is_letter is_digit is_sign
begun_47 = refl

pub begun_43 : begun 43 ≡ left (state.Number number.Sign)
unfolding begun is_base is_letter is_digit is_sign
begun_43 = refl

pub begun_45 : begun 45 ≡ left (state.Number number.Sign)
unfolding begun is_base is_letter is_digit is_sign
begun_45 = refl

pub begun_124 : begun 124 ≡ left (state.Mark mark.Bar)
unfolding begun is_base is_letter is_digit is_sign
begun_124 = refl

pub begun_94 : begun 94 ≡ left (state.Mark mark.Caret)
unfolding begun is_base is_letter is_digit is_sign
begun_94 = refl

pub begun_33 : begun 33 ≡ left (state.Mark mark.Equal)
unfolding begun is_base is_letter is_digit is_sign
begun_33 = refl

pub begun_61 : begun 61 ≡ left (state.Mark mark.Done)
unfolding begun is_base is_letter is_digit is_sign
begun_61 = refl

pub begun_62 : begun 62 ≡ left (state.Mark mark.Equal)
unfolding begun is_base is_letter is_digit is_sign
begun_62 = refl

pub begun_38 : begun 38 ≡ left (state.Mark mark.Ampersand)
unfolding begun is_base is_letter is_digit is_sign
begun_38 = refl

pub begun_34 : begun 34 ≡ (class.String, short_body 34 ⨾ char 34 ∣ char 34 ⨾ char 34 ⨾ long_body 34 ⨾ char 34 ⨾ char 34 ⨾ char 34) ∷ []
unfolding begun is_base is_letter is_digit is_sign
begun_34 = refl

pub begun_39 : begun 39 ≡ (class.String, short_body 39 ⨾ char 39 ∣ char 39 ⨾ char 39 ⨾ long_body 39 ⨾ char 39 ⨾ char 39 ⨾ char 39) ∷ []
unfolding begun is_base is_letter is_digit is_sign
begun_39 = refl

pub record Plain (c : ℕ) : Type 0 where
  pub not60 : (c == 60) ≡ false
  pub not58 : (c == 58) ≡ false
  pub not95 : (c == 95) ≡ false
  pub not63 : (c == 63) ≡ false
  pub not36 : (c == 36) ≡ false
  pub not46 : (c == 46) ≡ false
  pub not34 : (c == 34) ≡ false
  pub not39 : (c == 39) ≡ false
  pub not64 : (c == 64) ≡ false
  pub not123 : (c == 123) ≡ false
  pub not125 : (c == 125) ≡ false
  pub not40 : (c == 40) ≡ false
  pub not41 : (c == 41) ≡ false
  pub not91 : (c == 91) ≡ false
  pub not93 : (c == 93) ≡ false
  pub not44 : (c == 44) ≡ false
  pub not59 : (c == 59) ≡ false
  pub not42 : (c == 42) ≡ false
  pub not47 : (c == 47) ≡ false
  pub not43 : (c == 43) ≡ false
  pub not45 : (c == 45) ≡ false
  pub not124 : (c == 124) ≡ false
  pub not94 : (c == 94) ≡ false
  pub not33 : (c == 33) ≡ false
  pub not61 : (c == 61) ≡ false
  pub not62 : (c == 62) ≡ false
  pub not38 : (c == 38) ≡ false

plain : (p : ℕ → Bool) (c : ℕ) → p c ≡ true → p 60 ≡ false → p 58 ≡ false → p 95 ≡ false → p 63 ≡ false → p 36 ≡ false → p 46 ≡ false → p 34 ≡ false → p 39 ≡ false → p 64 ≡ false → p 123 ≡ false → p 125 ≡ false → p 40 ≡ false → p 41 ≡ false → p 91 ≡ false → p 93 ≡ false → p 44 ≡ false → p 59 ≡ false → p 42 ≡ false → p 47 ≡ false → p 43 ≡ false → p 45 ≡ false → p 124 ≡ false → p 94 ≡ false → p 33 ≡ false → p 61 ≡ false → p 62 ≡ false → p 38 ≡ false → Plain c
plain p c h h60 h58 h95 h63 h36 h46 h34 h39 h64 h123 h125 h40 h41 h91 h93 h44 h59 h42 h47 h43 h45 h124 h94 h33 h61 h62 h38 = record { not60 = apart p c 60 h h60; not58 = apart p c 58 h h58; not95 = apart p c 95 h h95; not63 = apart p c 63 h h63; not36 = apart p c 36 h h36; not46 = apart p c 46 h h46; not34 = apart p c 34 h h34; not39 = apart p c 39 h h39; not64 = apart p c 64 h h64; not123 = apart p c 123 h h123; not125 = apart p c 125 h h125; not40 = apart p c 40 h h40; not41 = apart p c 41 h h41; not91 = apart p c 91 h h91; not93 = apart p c 93 h h93; not44 = apart p c 44 h h44; not59 = apart p c 59 h h59; not42 = apart p c 42 h h42; not47 = apart p c 47 h h47; not43 = apart p c 43 h h43; not45 = apart p c 45 h h45; not124 = apart p c 124 h h124; not94 = apart p c 94 h h94; not33 = apart p c 33 h h33; not61 = apart p c 61 h h61; not62 = apart p c 62 h h62; not38 = apart p c 38 h h38 }

sign_of : (c : ℕ) → Plain c → is_sign c ≡ false
unfolding is_sign
sign_of c h = rw (h.not43, h.not45) refl

begun_word-by : (c : ℕ) → Plain c → is_sign c ≡ false → is_letter c ≡ true → is_base c ≡ true → is_digit c ≡ false → begun c ≡ left (state.Name name.Word)
unfolding begun
begun_word-by c h s l b d = simp (h.not60, h.not58, h.not95, h.not63, h.not36, h.not46, h.not34, h.not39, h.not64, h.not123, h.not125, h.not40, h.not41, h.not91, h.not93, h.not44, h.not59, h.not42, h.not47, h.not43, h.not45, h.not124, h.not94, h.not33, h.not61, h.not62, h.not38, s, l, b, d)

begun_prefix-by : (c : ℕ) → Plain c → is_sign c ≡ false → is_letter c ≡ false → is_base c ≡ true → is_digit c ≡ false → begun c ≡ left (state.Name name.Prefix)
unfolding begun
begun_prefix-by c h s l b d = simp (h.not60, h.not58, h.not95, h.not63, h.not36, h.not46, h.not34, h.not39, h.not64, h.not123, h.not125, h.not40, h.not41, h.not91, h.not93, h.not44, h.not59, h.not42, h.not47, h.not43, h.not45, h.not124, h.not94, h.not33, h.not61, h.not62, h.not38, s, l, b, d)

begun_whole-by : (c : ℕ) → Plain c → is_sign c ≡ false → is_letter c ≡ false → is_base c ≡ false → is_digit c ≡ true → begun c ≡ left (state.Number number.Whole)
unfolding begun
begun_whole-by c h s l b d = simp (h.not60, h.not58, h.not95, h.not63, h.not36, h.not46, h.not34, h.not39, h.not64, h.not123, h.not125, h.not40, h.not41, h.not91, h.not93, h.not44, h.not59, h.not42, h.not47, h.not43, h.not45, h.not124, h.not94, h.not33, h.not61, h.not62, h.not38, s, l, b, d)

begun_nowhere-by : (c : ℕ) → Plain c → is_sign c ≡ false → is_letter c ≡ false → is_base c ≡ false → is_digit c ≡ false → begun c ≡ []
unfolding begun
begun_nowhere-by c h s l b d = simp (h.not60, h.not58, h.not95, h.not63, h.not36, h.not46, h.not34, h.not39, h.not64, h.not123, h.not125, h.not40, h.not41, h.not91, h.not93, h.not44, h.not59, h.not42, h.not47, h.not43, h.not45, h.not124, h.not94, h.not33, h.not61, h.not62, h.not38, s, l, b, d)

plain_letter : (c : ℕ) → is_letter c ≡ true → Plain c
unfolding is_letter
plain_letter c h = plain is_letter c h refl refl refl refl refl refl refl refl refl refl refl refl refl refl refl refl refl refl refl refl refl refl refl refl refl refl refl

plain_base : (c : ℕ) → is_base c ≡ true → Plain c
unfolding is_base
plain_base c h = plain is_base c h refl refl refl refl refl refl refl refl refl refl refl refl refl refl refl refl refl refl refl refl refl refl refl refl refl refl refl

plain_digit : (c : ℕ) → is_digit c ≡ true → Plain c
unfolding is_digit
plain_digit c h = plain is_digit c h refl refl refl refl refl refl refl refl refl refl refl refl refl refl refl refl refl refl refl refl refl refl refl refl refl refl refl

false_from : (b : Bool) → (b ≡ true → ⊥) → b ≡ false
false_from true h = absurd (h refl)
false_from false h = refl

between : (low high c : ℕ) → is_in_range low high c ≡ true → (low ≤ c) × (c ≤ high)
between low high c h = grind (arith, nat_tests)

outside : (low high c : ℕ) → (c < low) ⊎ (high < c) → is_in_range low high c ≡ false
outside low high c h = false_from (is_in_range low high c) (λ e. (let b : (low ≤ c) × (c ≤ high) = between low high c e in elim h [ inl a ↦ absurd (omega arith) | inr a ↦ absurd (omega arith) ]))

-- a digit is no base, and a letter is no digit
digit_base : (c : ℕ) → is_digit c ≡ true → is_base c ≡ false
unfolding is_digit is_base
digit_base c h =
    let d : (48 ≤ c) × (c ≤ 57) = between 48 57 c h in
    rw (outside 65 90 c (inl (omega arith)), outside 97 122 c (inl (omega arith)), outside 192 214 c (inl (omega arith)), outside 216 246 c (inl (omega arith)), outside 248 767 c (inl (omega arith)), outside 880 893 c (inl (omega arith)), outside 895 8191 c (inl (omega arith)), outside 8204 8205 c (inl (omega arith)), outside 8304 8591 c (inl (omega arith)), outside 11264 12271 c (inl (omega arith)), outside 12289 55295 c (inl (omega arith)), outside 63744 64975 c (inl (omega arith)), outside 65008 65533 c (inl (omega arith)), outside 65536 983039 c (inl (omega arith))) refl

letter_digit : (c : ℕ) → is_letter c ≡ true → is_digit c ≡ false
unfolding is_letter is_digit
letter_digit c h =
    outside 48 57 c (inr (elim (or-cases (is_in_range 65 90 c) (is_in_range 97 122 c) h) [
      | inl a ↦ (let d : (65 ≤ c) × (c ≤ 90) = between 65 90 c a in omega arith)
      | inr a ↦ (let d : (97 ≤ c) × (c ≤ 122) = between 97 122 c a in omega arith)
    ]))

base_digit : (c : ℕ) → is_base c ≡ true → is_digit c ≡ false
base_digit c h = false_from (is_digit c) (λ d. true≢false (sym h ∙ digit_base c d))

letter_base' : (c : ℕ) → is_letter c ≡ true → is_base c ≡ true
unfolding is_letter
letter_base' c h = letter_base c h

pub begun_word : (c : ℕ) → is_letter c ≡ true → begun c ≡ left (state.Name name.Word)
begun_word c h = begun_word-by c (plain_letter c h) (sign_of c (plain_letter c h)) h (letter_base' c h) (letter_digit c h)

pub begun_prefix : (c : ℕ) → is_letter c ≡ false → is_base c ≡ true → begun c ≡ left (state.Name name.Prefix)
begun_prefix c l h = begun_prefix-by c (plain_base c h) (sign_of c (plain_base c h)) l h (base_digit c h)

pub begun_whole : (c : ℕ) → is_letter c ≡ false → is_base c ≡ false → is_digit c ≡ true → begun c ≡ left (state.Number number.Whole)
begun_whole c l b h = begun_whole-by c (plain_digit c h) (sign_of c (plain_digit c h)) l b h

pub begun_nowhere : (c : ℕ) → is_letter c ≡ false → is_base c ≡ false → is_digit c ≡ false → c ≢ 60 → c ≢ 58 → c ≢ 95 → c ≢ 63 → c ≢ 36 → c ≢ 46 → c ≢ 34 → c ≢ 39 → c ≢ 64 → c ≢ 123 → c ≢ 125 → c ≢ 40 → c ≢ 41 → c ≢ 91 → c ≢ 93 → c ≢ 44 → c ≢ 59 → c ≢ 42 → c ≢ 47 → c ≢ 43 → c ≢ 45 → c ≢ 124 → c ≢ 94 → c ≢ 33 → c ≢ 61 → c ≢ 62 → c ≢ 38 → begun c ≡ []
begun_nowhere c l b d h60 h58 h95 h63 h36 h46 h34 h39 h64 h123 h125 h40 h41 h91 h93 h44 h59 h42 h47 h43 h45 h124 h94 h33 h61 h62 h38 =
    let h : Plain c = record { not60 = ne_eqb c 60 h60; not58 = ne_eqb c 58 h58; not95 = ne_eqb c 95 h95; not63 = ne_eqb c 63 h63; not36 = ne_eqb c 36 h36; not46 = ne_eqb c 46 h46; not34 = ne_eqb c 34 h34; not39 = ne_eqb c 39 h39; not64 = ne_eqb c 64 h64; not123 = ne_eqb c 123 h123; not125 = ne_eqb c 125 h125; not40 = ne_eqb c 40 h40; not41 = ne_eqb c 41 h41; not91 = ne_eqb c 91 h91; not93 = ne_eqb c 93 h93; not44 = ne_eqb c 44 h44; not59 = ne_eqb c 59 h59; not42 = ne_eqb c 42 h42; not47 = ne_eqb c 47 h47; not43 = ne_eqb c 43 h43; not45 = ne_eqb c 45 h45; not124 = ne_eqb c 124 h124; not94 = ne_eqb c 94 h94; not33 = ne_eqb c 33 h33; not61 = ne_eqb c 61 h61; not62 = ne_eqb c 62 h62; not38 = ne_eqb c 38 h38 } in
    begun_nowhere-by c h (sign_of c h) l b d

pub ruleset starts = (begun_60, begun_58, begun_95, begun_63, begun_36, begun_46, begun_64, begun_123, begun_125, begun_40, begun_41, begun_91, begun_93, begun_44, begun_59, begun_42, begun_47, begun_43, begun_45, begun_124, begun_94, begun_33, begun_61, begun_62, begun_38, begun_34, begun_39, begun_word, begun_prefix, begun_whole, begun_nowhere)
