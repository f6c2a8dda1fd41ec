-- The classes of ASCII characters.
use Rattle.std.proofs.Common.{◌≡◌, ◌≤◌, ◌<◌, ℕ, Bool, true, false, ◌==◌, ◌||◌, refl, ◌∙◌, ap, arith, eqb-true, lit≤, sym, true≢false}
use Rattle.std.proofs.lemmas.Bool.{lt-leb, leb-true}
use Rattle.std.proofs.Math.Dec.{leb}
use Rattle.std.proofs.Math.Bool.{or-false}
use Rattle.std.specs.Int.{is_in_range}
use Rattle.qs_lex_regular.specs.Character.{is_iri_char, is_digit, is_base, is_pn_chars_u, is_pn_chars, is_mark_in_name, is_letter}
use Rattle.qs_lex.specs.Table.{is_word_char}
use Rattle.qs_lex.proofs.Apart.{apart}

under : (m n c : ℕ) → c < 128 → 128 ≤ m → is_in_range m n c ≡ false
under m n c h k = let e = lt-leb m c (omega arith) in rw e refl

or_right : (a b : Bool) → b ≡ false → (a || b) ≡ a
or_right true b e = refl
or_right false b e = e

or_left : (a b d : Bool) → a ≡ d → b ≡ false → (a || b) ≡ d
or_left a b d e f = or_right a b f ∙ e

pub ascii_base : (c : ℕ) → c < 128 → is_base c ≡ is_letter c
unfolding is_base is_letter
ascii_base c h =
    or_left _ _ _ (or_left _ _ _ (or_left _ _ _ (or_left _ _ _ (or_left _ _ _ (or_left _ _ _ (or_left _ _ _ (or_left _ _ _ (or_left _ _ _ (or_left _ _ _ (or_left _ _ _
    (or_right _ _ (under 0xC0 0xD6 c h (lit≤ tt))) (under 0xD8 0xF6 c h (lit≤ tt))) (under 0xF8 0x2FF c h (lit≤ tt))) (under 0x370 0x37D c h (lit≤ tt)))
    (under 0x37F 0x1FFF c h (lit≤ tt))) (under 0x200C 0x200D c h (lit≤ tt))) (under 0x2070 0x218F c h (lit≤ tt))) (under 0x2C00 0x2FEF c h (lit≤ tt)))
    (under 0x3001 0xD7FF c h (lit≤ tt))) (under 0xF900 0xFDCF c h (lit≤ tt))) (under 0xFDF0 0xFFFD c h (lit≤ tt))) (under 0x1_0000 0xE_FFFF c h (lit≤ tt))

other : (c x : ℕ) → c < x → (c == x) ≡ false
other c x h = from (c == x) refl where
  from : (b : Bool) → (c == x) ≡ b → (c == x) ≡ false
  from true e = let same : c ≡ x = eqb-true c x e in absurd (omega (arith, same, h))
  from false e = e

ascii_mark : (c : ℕ) → c < 128 → is_mark_in_name c ≡ false
unfolding is_mark_in_name
ascii_mark c h = or_left _ _ _ (or_left _ _ _ (other c 0xB7 (omega arith)) (under 0x300 0x36F c h (lit≤ tt))) (under 0x203F 0x2040 c h (lit≤ tt))

or_true : (a : Bool) → (a || true) ≡ true
or_true true = refl
or_true false = refl

turned : (upper lower low dash digit : Bool) → ((((upper || lower) || low) || dash) || digit) ≡ ((((digit || upper) || lower) || low) || dash)
turned upper lower low dash true = or_true (((upper || lower) || low) || dash)
turned upper lower low dash false = or-false (((upper || lower) || low) || dash)

pub ascii_chars : (c : ℕ) → c < 128 → is_pn_chars c ≡ (is_word_char c || c == 45)
unfolding is_pn_chars is_pn_chars_u is_word_char is_letter is_digit
ascii_chars c h =
    or_left _ _ _ (ap (λ b. ((b || c == 95) || c == 45) || is_digit c) (ascii_base c h)) (ascii_mark c h)
    ∙ turned (is_in_range 65 90 c) (is_in_range 97 122 c) (c == 95) (c == 45) (is_in_range 48 57 c)

-- ---- IRIs

above : (m n c : ℕ) → c ≤ 32 → 33 ≤ m → is_in_range m n c ≡ false
above m n c h k = let e = lt-leb m c (omega arith) in rw e refl

no_word : (c : ℕ) → c ≤ 32 → is_word_char c ≡ false
unfolding is_word_char
no_word c h =
    or_left _ _ _ (or_left _ _ _ (or_left _ _ _ (above 48 57 c h (lit≤ tt)) (above 65 90 c h (lit≤ tt))) (above 97 122 c h (lit≤ tt))) (other c 95 (omega arith))

not_blank : (c : ℕ) → is_word_char c ≡ true → leb c 32 ≡ false
not_blank c h = from (leb c 32) refl where
  from : (b : Bool) → leb c 32 ≡ b → leb c 32 ≡ false
  from true e = let le : c ≤ 32 = leb-true c 32 e in absurd (true≢false (sym h ∙ no_word c le))
  from false e = e

pub word_iri : (c : ℕ) → is_word_char c ≡ true → is_iri_char c ≡ true
unfolding is_iri_char is_word_char
word_iri c h =
    let b : leb c 32 ≡ false = not_blank c h in
    let n0 : (c == 60) ≡ false = apart is_word_char c 60 h refl in
    let n1 : (c == 62) ≡ false = apart is_word_char c 62 h refl in
    let n2 : (c == 34) ≡ false = apart is_word_char c 34 h refl in
    let n3 : (c == 123) ≡ false = apart is_word_char c 123 h refl in
    let n4 : (c == 125) ≡ false = apart is_word_char c 125 h refl in
    let n5 : (c == 124) ≡ false = apart is_word_char c 124 h refl in
    let n6 : (c == 94) ≡ false = apart is_word_char c 94 h refl in
    let n7 : (c == 96) ≡ false = apart is_word_char c 96 h refl in
    let n8 : (c == 92) ≡ false = apart is_word_char c 92 h refl in
    rw (b, n0, n1, n2, n3, n4, n5, n6, n7, n8) refl

past_blanks : (c : ℕ) → is_in_range 35 59 c ≡ true → leb c 32 ≡ false
past_blanks c h = from (leb c 32) refl where
  from : (b : Bool) → leb c 32 ≡ b → leb c 32 ≡ false
  from true e = let le : c ≤ 32 = leb-true c 32 e in absurd (true≢false (sym h ∙ above 35 59 c le (lit≤ tt)))
  from false e = e

-- from `#` to `;` no character is excluded
pub middle_iri : (c : ℕ) → is_in_range 35 59 c ≡ true → is_iri_char c ≡ true
unfolding is_iri_char
middle_iri c h =
    let b : leb c 32 ≡ false = past_blanks c h in
    let n0 : (c == 60) ≡ false = apart (λ x. is_in_range 35 59 x) c 60 h refl in
    let n1 : (c == 62) ≡ false = apart (λ x. is_in_range 35 59 x) c 62 h refl in
    let n2 : (c == 34) ≡ false = apart (λ x. is_in_range 35 59 x) c 34 h refl in
    let n3 : (c == 123) ≡ false = apart (λ x. is_in_range 35 59 x) c 123 h refl in
    let n4 : (c == 125) ≡ false = apart (λ x. is_in_range 35 59 x) c 125 h refl in
    let n5 : (c == 124) ≡ false = apart (λ x. is_in_range 35 59 x) c 124 h refl in
    let n6 : (c == 94) ≡ false = apart (λ x. is_in_range 35 59 x) c 94 h refl in
    let n7 : (c == 96) ≡ false = apart (λ x. is_in_range 35 59 x) c 96 h refl in
    let n8 : (c == 92) ≡ false = apart (λ x. is_in_range 35 59 x) c 92 h refl in
    rw (b, n0, n1, n2, n3, n4, n5, n6, n7, n8) refl
