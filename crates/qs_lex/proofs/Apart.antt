-- Classes of characters that have no character in common.
use Rattle.std.proofs.Common.{◌≡◌, ℕ, Bool, true, false, ◌==◌, ◌||◌, refl, sym, subst, ap, ◌∙◌, eqb-true, true≢false, ◌⊎◌, inl, inr}
use Rattle.std.specs.Char.{is_ascii_alphabetic, is_ascii_alphanumeric}
use Rattle.std.specs.Int.{is_in_range}
use Rattle.qs_lex_regular.specs.Character.{is_digit, is_base, is_pn_chars_u, is_pn_chars, is_mark_in_name, is_letter, is_letter_or_digit, is_iri_char, is_escaped}
use Rattle.qs_lex.specs.Table.{is_exponent, is_sign, is_word_char}

-- a class with c in it and x not in it tells them apart
pub apart : (p : ℕ → Bool) (c x : ℕ) → p c ≡ true → p x ≡ false → (c == x) ≡ false
apart p c x h k = from (c == x) refl where
  from : (b : Bool) → (c == x) ≡ b → (c == x) ≡ false
  from true e = absurd (true≢false (sym h ∙ (ap p (eqb-true c x e) ∙ k)))
  from false e = e

pub digit_dot : (c : ℕ) → is_digit c ≡ true → (c == 46) ≡ false
unfolding is_digit
digit_dot c h = apart is_digit c 46 h refl

or-false : (a b : Bool) → a ≡ false → b ≡ false → (a || b) ≡ false
or-false true b p q = p
or-false false b p q = q

pub digit_exponent : (c : ℕ) → is_digit c ≡ true → is_exponent c ≡ false
unfolding is_digit is_exponent
digit_exponent c h = or-false (c == 101) (c == 69) (apart is_digit c 101 h refl) (apart is_digit c 69 h refl)

pub digit_sign : (c : ℕ) → is_digit c ≡ true → is_sign c ≡ false
unfolding is_digit is_sign
digit_sign c h = or-false (c == 43) (c == 45) (apart is_digit c 43 h refl) (apart is_digit c 45 h refl)

pub dot_digit : is_digit 46 ≡ false
unfolding is_digit
dot_digit = refl

pub dot_exponent : is_exponent 46 ≡ false
unfolding is_exponent
dot_exponent = refl

pub dot_sign : is_sign 46 ≡ false
unfolding is_sign
dot_sign = refl

-- ---- IRIs

pub iri_backslash : (c : ℕ) → is_iri_char c ≡ true → (c == 92) ≡ false
unfolding is_iri_char
iri_backslash c h = apart is_iri_char c 92 h refl

pub iri_greater : (c : ℕ) → is_iri_char c ≡ true → (c == 62) ≡ false
unfolding is_iri_char
iri_greater c h = apart is_iri_char c 62 h refl

pub equal_iri : is_iri_char 61 ≡ true
unfolding is_iri_char
equal_iri = refl

pub greater_iri : is_iri_char 62 ≡ false
unfolding is_iri_char
greater_iri = refl

pub backslash_iri : is_iri_char 92 ≡ false
unfolding is_iri_char
backslash_iri = refl

-- ---- names

pub chars_colon : (c : ℕ) → is_pn_chars c ≡ true → (c == 58) ≡ false
unfolding is_pn_chars is_pn_chars_u is_base is_digit is_mark_in_name
chars_colon c h = apart is_pn_chars c 58 h refl

pub chars_percent : (c : ℕ) → is_pn_chars c ≡ true → (c == 37) ≡ false
unfolding is_pn_chars is_pn_chars_u is_base is_digit is_mark_in_name
chars_percent c h = apart is_pn_chars c 37 h refl

pub chars_backslash : (c : ℕ) → is_pn_chars c ≡ true → (c == 92) ≡ false
unfolding is_pn_chars is_pn_chars_u is_base is_digit is_mark_in_name
chars_backslash c h = apart is_pn_chars c 92 h refl

pub word_colon : (c : ℕ) → is_word_char c ≡ true → (c == 58) ≡ false
unfolding is_word_char
word_colon c h = apart is_word_char c 58 h refl

pub u_percent : (c : ℕ) → is_pn_chars_u c ≡ true → (c == 37) ≡ false
unfolding is_pn_chars_u is_base
u_percent c h = apart is_pn_chars_u c 37 h refl

pub u_backslash : (c : ℕ) → is_pn_chars_u c ≡ true → (c == 92) ≡ false
unfolding is_pn_chars_u is_base
u_backslash c h = apart is_pn_chars_u c 92 h refl

pub digit_percent : (c : ℕ) → is_digit c ≡ true → (c == 37) ≡ false
unfolding is_digit
digit_percent c h = apart is_digit c 37 h refl

pub digit_backslash : (c : ℕ) → is_digit c ≡ true → (c == 92) ≡ false
unfolding is_digit
digit_backslash c h = apart is_digit c 92 h refl

pub letter_dash : (c : ℕ) → is_letter c ≡ true → (c == 45) ≡ false
unfolding is_letter
letter_dash c h = apart is_letter c 45 h refl

pub letter_or_digit_dash : (c : ℕ) → is_letter_or_digit c ≡ true → (c == 45) ≡ false
unfolding is_letter_or_digit
letter_or_digit_dash c h = apart is_letter_or_digit c 45 h refl

pub colon_chars : is_pn_chars 58 ≡ false
unfolding is_pn_chars is_pn_chars_u is_base is_digit is_mark_in_name
colon_chars = refl

pub colon_u : is_pn_chars_u 58 ≡ false
unfolding is_pn_chars_u is_base
colon_u = refl

pub colon_word : is_word_char 58 ≡ false
unfolding is_word_char
colon_word = refl

pub dot_word : is_word_char 46 ≡ false
unfolding is_word_char
dot_word = refl

low_chars : is_pn_chars 95 ≡ true
unfolding is_pn_chars is_pn_chars_u is_base is_digit is_mark_in_name
low_chars = refl

pub letter_base : (c : ℕ) → is_ascii_alphabetic c ≡ true → is_base c ≡ true
unfolding is_base
letter_base c h = rw h refl

or-left : (a b : Bool) → a ≡ true → (a || b) ≡ true
or-left true b p = refl
or-left false b p = absurd (true≢false (sym p))

or-right : (a b : Bool) → b ≡ true → (a || b) ≡ true
or-right true b p = refl
or-right false b p = p

pub or-cases : (a b : Bool) → (a || b) ≡ true → (a ≡ true) ⊎ (b ≡ true)
or-cases true b h = inl refl
or-cases false b h = inr h

pub base_chars : (c : ℕ) → is_base c ≡ true → is_pn_chars c ≡ true
unfolding is_pn_chars is_pn_chars_u
base_chars c h = rw h refl

digit_chars : (c : ℕ) → is_digit c ≡ true → is_pn_chars c ≡ true
unfolding is_pn_chars
digit_chars c h = or-left ((is_pn_chars_u c || c == 45) || is_digit c) (is_mark_in_name c) (or-right (is_pn_chars_u c || c == 45) (is_digit c) h)

pub word_chars : (c : ℕ) → is_word_char c ≡ true → is_pn_chars c ≡ true
unfolding is_word_char is_digit
word_chars c h =
    elim (or-cases (is_ascii_alphanumeric c) (c == 95) h) [
      | inl a ↦ (elim (or-cases (is_in_range 48 57 c || is_in_range 65 90 c) (is_in_range 97 122 c) a) [
        | inl b ↦ (elim (or-cases (is_in_range 48 57 c) (is_in_range 65 90 c) b) [
          | inl d ↦ digit_chars c d
          | inr d ↦ base_chars c (letter_base c (or-left (is_in_range 65 90 c) (is_in_range 97 122 c) d))
        ])
        | inr b ↦ base_chars c (letter_base c (or-right (is_in_range 65 90 c) (is_in_range 97 122 c) b))
      ])
      | inr u ↦ subst (λ z. is_pn_chars z ≡ true) (sym (eqb-true c 95 u)) low_chars
    ]

-- ---- texts

pub escaped_u : (c : ℕ) → is_escaped c ≡ true → (c == 117) ≡ false
unfolding is_escaped
escaped_u c h = apart is_escaped c 117 h refl

pub escaped_long_u : (c : ℕ) → is_escaped c ≡ true → (c == 85) ≡ false
unfolding is_escaped
escaped_long_u c h = apart is_escaped c 85 h refl

pub letter_is_base : (c : ℕ) → is_letter c ≡ true → is_base c ≡ true
unfolding is_letter
letter_is_base c h = letter_base c h
