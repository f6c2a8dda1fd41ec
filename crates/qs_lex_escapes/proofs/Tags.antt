-- A language tag as it is spelled is one in the eyes of the terms.
use Rattle.std.proofs.Common.{◌≡◌, ℕ, ◌<◌, Bool, true, false, ◌==◌, not, List, [], ◌∷◌, ◌++◌, refl, sym, ap, ◌∙◌, subst, arith, eqb-true}
use Rattle.std.proofs.lemmas.Bool.{not-true}
use Rattle.std.proofs.lemmas.Bool.Decides.{nat_tests}
use lib.Utf8.{encodes}
use Rattle.qs_lex_regular.specs.Character.{is_letter, is_letter_or_digit}
use Rattle.qs_lex_regular.specs.Form.{Form, Spells, Pieces, none, more, one, many, plus, char, ◌⨾◌}
use Rattle.qs_terms.specs.Tag.{is_tag, is_tag_rest, is_subtag_char}
use Rattle.qs_lex_escapes.proofs.Bytes.{within, other_than, is_small, small_within, ascii_bytes}
use Rattle.qs_lex_escapes.proofs.Spelled.{spelled_pass}

-- letters, then any number of `-` with letters and digits
abbrev pub tag_form : Form
tag_form = plus (one is_letter) ⨾ many (char 45 ⨾ plus (one is_letter_or_digit))

-- ---- letters and digits

letter_dash : (c : ℕ) → is_letter c ≡ true → (c == 45) ≡ false
unfolding is_letter
letter_dash c h = not-true (c == 45) (within is_letter (λ c. not (c == 45)) refl (other_than 45 (omega arith)) c h)

letter_or_digit_dash : (c : ℕ) → is_letter_or_digit c ≡ true → (c == 45) ≡ false
unfolding is_letter_or_digit
letter_or_digit_dash c h = not-true (c == 45) (within is_letter_or_digit (λ c. not (c == 45)) refl (other_than 45 (omega arith)) c h)

-- characters of a subtag, after one of them
goes_through : (first : Bool) (p : ℕ → Bool) → ((c : ℕ) → p c ≡ true → (is_subtag_char first c ≡ true) × ((c == 45) ≡ false)) → (x y : List ℕ) → Pieces (Spells (one p)) x
    → is_tag_rest first false y ≡ true → is_tag_rest first false (x ++ y) ≡ true
goes_through first p f _ y none h = h
goes_through first p f _ y (more u v s ps) h =
    let c : ℕ = s.0 in
    let q : (is_subtag_char first c ≡ true) × ((c == 45) ≡ false) = f c s.1 in
    let next : is_tag_rest first false (v ++ y) ≡ true = goes_through first p f v y ps h in
    let a : (c == 45) ≡ false = q.1 in let b : is_subtag_char first c ≡ true = q.0 in
    subst (λ z. is_tag_rest first false ((z ++ v) ++ y) ≡ true) (sym s.2) (rw (a, b) next)

-- the same with the first of them
begins : (first : Bool) (p : ℕ → Bool) → ((c : ℕ) → p c ≡ true → (is_subtag_char first c ≡ true) × ((c == 45) ≡ false)) → (x y : List ℕ) → Spells (plus (one p)) x
    → is_tag_rest first false y ≡ true → is_tag_rest first true (x ++ y) ≡ true
begins first p f x y s h =
    let u : List ℕ = s.0 in let v : List ℕ = s.1 in let c : ℕ = s.2.0 in
    let q : (is_subtag_char first c ≡ true) × ((c == 45) ≡ false) = f c s.2.1 in
    let a : (c == 45) ≡ false = q.1 in let b : is_subtag_char first c ≡ true = q.0 in
    let next : is_tag_rest first false (v ++ y) ≡ true = goes_through first p f v y s.3 h in
    let is : x ≡ c ∷ v = s.4 ∙ ap (λ z. z ++ v) s.2.2 in
    subst (λ z. is_tag_rest first true (z ++ y) ≡ true) (sym is) (rw (a, b) next)

letters : (c : ℕ) → is_letter c ≡ true → (is_subtag_char true c ≡ true) × ((c == 45) ≡ false)
unfolding is_letter
letters c h = (h, letter_dash c h)

letters_or_digits : (c : ℕ) → is_letter_or_digit c ≡ true → (is_subtag_char false c ≡ true) × ((c == 45) ≡ false)
unfolding is_letter_or_digit
letters_or_digits c h = (h, letter_or_digit_dash c h)

-- ---- subtags

subtags : (first : Bool) (x : List ℕ) → Pieces (Spells (char 45 ⨾ plus (one is_letter_or_digit))) x → is_tag_rest first false x ≡ true
subtags first _ none = refl
subtags first _ (more u v s ps) =
    let is : u ≡ 45 ∷ s.1 = s.4 ∙ ap (λ z. z ++ s.1) (s.2.2 ∙ ap (λ c. c ∷ []) (eqb-true s.2.0 45 s.2.1)) in
    subst (λ z. is_tag_rest first false (z ++ v) ≡ true) (sym is) (begins false is_letter_or_digit letters_or_digits s.1 v s.3 (subtags false v ps))

whole_tag : (x : List ℕ) → Spells tag_form x → is_tag x ≡ true
whole_tag x s = subst (λ z. is_tag z ≡ true) (sym s.4) (begins true is_letter letters s.0 s.1 s.2 (subtags true s.1 s.3))

-- ---- its bytes

small_letter : (c : ℕ) → is_letter c ≡ true → c < 128
unfolding is_letter
small_letter c h = grind (arith, nat_tests)

small_letter_or_digit : (c : ℕ) → is_letter_or_digit c ≡ true → c < 128
unfolding is_letter_or_digit
small_letter_or_digit c h = grind (arith, nat_tests)

small_dash : (c : ℕ) → (c == 45) ≡ true → c < 128
small_dash c h = let e : c ≡ 45 = eqb-true c 45 h in omega arith

pub tag_bytes : (x : List ℕ) → Spells tag_form x → encodes x ≡ x
tag_bytes x s =
    let l = small_within is_letter small_letter in let d = small_within is_letter_or_digit small_letter_or_digit in let m = small_within (λ c. c == 45) small_dash in
    ascii_bytes x (spelled_pass is_small tag_form ((l, l), (m, (d, d))) x s)

pub lawful_tag : (x : List ℕ) → Spells tag_form x → is_tag (encodes x) ≡ true
lawful_tag x s = ap is_tag (tag_bytes x s) ∙ whole_tag x s
