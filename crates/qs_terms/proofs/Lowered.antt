-- A tag in lower case is a tag, and stays as it is when it is put into lower case again.
use Rattle.std.proofs.Common.{◌≡◌, ℕ, ◌+◌, ◌≤◌, ◌==◌, Bool, true, false, ◌&&◌, List, [], ◌∷◌, refl, ◌∙◌, ap, arith, inl, inr}
use Rattle.std.specs.Char.{is_ascii_alphabetic, is_ascii_alphanumeric, to_ascii_lowercase}
use Rattle.std.proofs.lemmas.Bool.{cases_lt}
use Rattle.std.proofs.lemmas.Bool.Decides.{nat_tests}
use Rattle.std.proofs.lemmas.Str.Ascii.{lowercase_is, lowercase-lowercase}
use Rattle.std.proofs.lemmas.Slice.Eq.{bytes_eq-Decides}
use Rattle.qs_terms.specs.Tag.{is_subtag_char, is_tag_rest, is_tag, lowered}
use Rattle.qs_terms.specs.inner.Literal.{is_lower_tag}

module _ (c : ℕ) where
  abbrev Turns : (ℕ → Bool) → ℕ → Type 0
  Turns f d = f d ≡ f c

  -- what holds of c + 32 for a capital c, and of c for any other, holds of c in lower case
  turned : (f : ℕ → Bool) → (65 ≤ c → c ≤ 90 → f (c + 32) ≡ f c) → f (to_ascii_lowercase c) ≡ f c
  turned f h =
      let w = lowercase_is c in
      elim (cases_lt c 65) [
        | inl l ↦ ap f (w.1 l)
        | inr l ↦ elim (cases_lt c 91) [ inl m ↦ ap f (w.0 (l, omega arith)) ∙ h l (omega arith) | inr m ↦ ap f (w.2 (omega arith)) ]
      ]

is_alphabetic-lower : (c : ℕ) → is_ascii_alphabetic (to_ascii_lowercase c) ≡ is_ascii_alphabetic c
is_alphabetic-lower c = turned c is_ascii_alphabetic (λ a b. grind (arith, nat_tests))

is_alphanumeric-lower : (c : ℕ) → is_ascii_alphanumeric (to_ascii_lowercase c) ≡ is_ascii_alphanumeric c
is_alphanumeric-lower c = turned c is_ascii_alphanumeric (λ a b. grind (arith, nat_tests))

is_hyphen-lower : (c : ℕ) → (to_ascii_lowercase c == 45) ≡ (c == 45)
is_hyphen-lower c = turned c (λ d. d == 45) (λ a b. grind (arith, nat_tests))

is_subtag_char-lower : (first : Bool) (c : ℕ) → is_subtag_char first (to_ascii_lowercase c) ≡ is_subtag_char first c
is_subtag_char-lower true c = is_alphabetic-lower c
is_subtag_char-lower false c = is_alphanumeric-lower c

is_tag_rest-lowered : (first empty : Bool) (text : List ℕ) → is_tag_rest first empty (lowered text) ≡ is_tag_rest first empty text
is_tag_rest-lowered first empty [] = refl
is_tag_rest-lowered first empty (c ∷ cs) =
    rw (is_hyphen-lower c, is_subtag_char-lower first c, is_tag_rest-lowered false true cs, is_tag_rest-lowered first false cs)

lowered-lowered : (text : List ℕ) → lowered (lowered text) ≡ lowered text
lowered-lowered [] = refl
lowered-lowered (c ∷ cs) = rw (lowercase-lowercase c, lowered-lowered cs)

pub both_true : (a b : Bool) → a ≡ true → b ≡ true → (a && b) ≡ true
both_true a b h k = rw (h, k)

pub is_lower_tag-lowered : (tag : List ℕ) → is_tag tag ≡ true → is_lower_tag (lowered tag) ≡ true
is_lower_tag-lowered tag h =
    both_true _ _ (is_tag_rest-lowered true true tag ∙ h) ((bytes_eq-Decides _ _).1 (lowered-lowered tag))
