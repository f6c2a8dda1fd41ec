-- Characters that leave what has been read of a token as it is.
use Rattle.std.proofs.Common.{◌≡◌, ℕ, Bool, true, false, not, ◌==◌, ◌||◌, [], ◌∷◌, refl, sym, ap, ◌∙◌, true≢false}
use Rattle.std.proofs.Math.Bool.{or-false}
use Rattle.qs_lex_regular.specs.inner.Best.{advance}
use Rattle.qs_lex_regular.specs.Character.{is_one_of, is_pn_chars_u, is_digit, is_pn_chars, is_mark_in_name, is_iri_char}
use Rattle.qs_lex.specs.Table.{is_exponent, is_word_char}
use Rattle.qs_lex.specs.inner.NameState.{left_of_name}
use Rattle.qs_lex.specs.inner.IriState.{left_of_iri}
use Rattle.qs_lex.specs.inner.NumberState.{left_of_number}
use Rattle.qs_lex.specs.inner.StringState.{left_of_string}
use Rattle.qs_lex.specs.declared.quote.Quote.{Quote}
use Rattle.qs_lex.specs.declared.name_state.NameState.TheVariants as name
use Rattle.qs_lex.specs.declared.iri_state.IriState.TheVariants as iri
use Rattle.qs_lex.specs.declared.number_state.NumberState.TheVariants as number
use Rattle.qs_lex.specs.declared.string_state.StringState.TheVariants as string
use Rattle.qs_lex.proofs.Apart.{apart, word_chars, word_colon, chars_percent, chars_backslash, iri_backslash, iri_greater, digit_dot, digit_exponent}

pub plain : (c : ℕ) → is_word_char c ≡ true → advance (left_of_name name.Plain) c ≡ left_of_name name.Plain
plain c h = simp h

pub word : (c : ℕ) → is_word_char c ≡ true → advance (left_of_name name.Word) c ≡ left_of_name name.Word
word c h = let g : is_pn_chars c ≡ true = word_chars c h in let d : (c == 58) ≡ false = word_colon c h in simp (h, g, d)

pub local : (c : ℕ) → is_word_char c ≡ true → advance (left_of_name name.Local) c ≡ left_of_name name.Local
local c h =
    let g : is_pn_chars c ≡ true = word_chars c h in
    let d : (c == 58) ≡ false = word_colon c h in
    let p : (c == 37) ≡ false = chars_percent c g in
    let b : (c == 92) ≡ false = chars_backslash c g in
    simp (g, d, p, b)

word_dash : (c : ℕ) → is_word_char c ≡ true → (c == 45) ≡ false
unfolding is_word_char
word_dash c h = apart is_word_char c 45 h refl

in_variable : (c : ℕ) → is_word_char c ≡ true → (is_pn_chars_u c || is_digit c || is_mark_in_name c) ≡ true
unfolding is_pn_chars
in_variable c h =
    let d : (c == 45) ≡ false = word_dash c h in
    ap (λ b. (b || is_digit c) || is_mark_in_name c) (sym (ap (λ b. is_pn_chars_u c || b) d ∙ or-false (is_pn_chars_u c))) ∙ word_chars c h

pub variable : (c : ℕ) → is_word_char c ≡ true → advance (left_of_name name.Variable) c ≡ left_of_name name.Variable
variable c h = let g : (is_pn_chars_u c || is_digit c || is_mark_in_name c) ≡ true = in_variable c h in simp g

pub whole : (c : ℕ) → is_digit c ≡ true → advance (left_of_number number.Whole) c ≡ left_of_number number.Whole
whole c h = let d : (c == 46) ≡ false = digit_dot c h in let e : is_exponent c ≡ false = digit_exponent c h in simp (h, d, e)

pub signed_whole : (c : ℕ) → is_digit c ≡ true → advance (left_of_number number.SignedWhole) c ≡ left_of_number number.SignedWhole
signed_whole c h = let d : (c == 46) ≡ false = digit_dot c h in let e : is_exponent c ≡ false = digit_exponent c h in simp (h, d, e)

pub body : (c : ℕ) → is_iri_char c ≡ true → advance (left_of_iri iri.Body) c ≡ left_of_iri iri.Body
body c h =
    let b : (c == 92) ≡ false = iri_backslash c h in
    let g : (c == 62) ≡ false = iri_greater c h in
    simp (h, b, g)

-- none of four tests holds
none_of : (a b d e : Bool) → not (a || (b || (d || (e || false)))) ≡ true → (a ≡ false) × (b ≡ false) × (d ≡ false) × (e ≡ false)
none_of true b d e h = absurd (true≢false (sym h))
none_of false true d e h = absurd (true≢false (sym h))
none_of false false true e h = absurd (true≢false (sym h))
none_of false false false true h = absurd (true≢false (sym h))
none_of false false false false h = (refl, refl, refl, refl)

pub short : (q : Quote) (c : ℕ) → not (is_one_of (q.mark ∷ 92 ∷ 10 ∷ 13 ∷ []) c) ≡ true → advance (left_of_string (string.Short q)) c ≡ left_of_string (string.Short q)
short q c h =
    let other : ((c == q.mark) ≡ false) × ((c == 92) ≡ false) × ((c == 10) ≡ false) × ((c == 13) ≡ false) = none_of (c == q.mark) (c == 92) (c == 10) (c == 13) h in
    let m : (c == q.mark) ≡ false = other.0 in
    let b : (c == 92) ≡ false = other.1 in
    let n : (c == 10) ≡ false = other.2 in
    let r : (c == 13) ≡ false = other.3 in
    simp (m, b, n, r)

pub long : (q : Quote) (c : ℕ) → not (is_one_of (q.mark ∷ 92 ∷ 10 ∷ 13 ∷ []) c) ≡ true → advance (left_of_string (string.Long q)) c ≡ left_of_string (string.Long q)
long q c h =
    let other : ((c == q.mark) ≡ false) × ((c == 92) ≡ false) × ((c == 10) ≡ false) × ((c == 13) ≡ false) = none_of (c == q.mark) (c == 92) (c == 10) (c == 13) h in
    let m : (c == q.mark) ≡ false = other.0 in
    let b : (c == 92) ≡ false = other.1 in
    simp (m, b)
