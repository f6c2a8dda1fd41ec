-- Classes of characters that have no character in common.
use Rattle.std.proofs.Common.{◌≡◌, ℕ, Bool, true, false, ◌==◌, refl, sym, ap, ◌∙◌, eqb-true, true≢false}
use Rattle.qs_lex_regular.specs.Character.{is_digit, is_base, is_pn_chars_u, is_pn_chars, is_mark_in_name, is_letter, is_letter_or_digit, is_iri_char, is_escaped}
use Rattle.qs_nquads.specs.Table.{is_string_char, is_label_char}

-- a class with c in it and x not in it tells them apart
pub apart : (p : ℕ → Bool) (c x : ℕ) → p c ≡ true → p x ≡ false → (c == x) ≡ false
apart p c x h k = from (c == x) refl where
  from : (b : Bool) → (c == x) ≡ b → (c == x) ≡ false
  from true e = absurd (true≢false (sym h ∙ (ap p (eqb-true c x e) ∙ k)))
  from false e = e

-- ---- IRIs

pub iri_backslash : (c : ℕ) → is_iri_char c ≡ true → (c == 92) ≡ false
unfolding is_iri_char
iri_backslash c h = apart is_iri_char c 92 h refl

pub iri_greater : (c : ℕ) → is_iri_char c ≡ true → (c == 62) ≡ false
unfolding is_iri_char
iri_greater c h = apart is_iri_char c 62 h refl

pub greater_iri : is_iri_char 62 ≡ false
unfolding is_iri_char
greater_iri = refl

pub backslash_iri : is_iri_char 92 ≡ false
unfolding is_iri_char
backslash_iri = refl

-- ---- strings

pub string_quote : (c : ℕ) → is_string_char c ≡ true → (c == 34) ≡ false
unfolding is_string_char
string_quote c h = apart is_string_char c 34 h refl

pub string_backslash : (c : ℕ) → is_string_char c ≡ true → (c == 92) ≡ false
unfolding is_string_char
string_backslash c h = apart is_string_char c 92 h refl

pub quote_string : is_string_char 34 ≡ false
unfolding is_string_char
quote_string = refl

pub backslash_string : is_string_char 92 ≡ false
unfolding is_string_char
backslash_string = refl

pub escaped_u : (c : ℕ) → is_escaped c ≡ true → (c == 117) ≡ false
unfolding is_escaped
escaped_u c h = apart is_escaped c 117 h refl

pub escaped_long_u : (c : ℕ) → is_escaped c ≡ true → (c == 85) ≡ false
unfolding is_escaped
escaped_long_u c h = apart is_escaped c 85 h refl

-- ---- tags

pub letter_dash : (c : ℕ) → is_letter c ≡ true → (c == 45) ≡ false
unfolding is_letter
letter_dash c h = apart is_letter c 45 h refl

pub letter_or_digit_dash : (c : ℕ) → is_letter_or_digit c ≡ true → (c == 45) ≡ false
unfolding is_letter_or_digit
letter_or_digit_dash c h = apart is_letter_or_digit c 45 h refl

-- ---- labels

pub label_dot : (c : ℕ) → is_label_char c ≡ true → (c == 46) ≡ false
unfolding is_label_char is_pn_chars is_pn_chars_u is_base is_digit is_mark_in_name
label_dot c h = apart is_label_char c 46 h refl
