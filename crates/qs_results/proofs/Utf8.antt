-- What is written after UTF-8 is UTF-8.
use Rattle.std.proofs.Common.{◌≡◌, ℕ, zero, suc, ◌<◌, nat_lt, Bool, true, false, ◌&&◌, List, [], ◌∷◌, ◌++◌, IsUtf8, refl, sym, ap, ◌∙◌, subst, arith}
use Rattle.std.proofs.lemmas.Bool.Decides.{nat_tests}
use Rattle.std.specs.List.{list_all}
use Rattle.std.specs.Str.{IsAscii}
use Rattle.std.proofs.lemmas.Str.{IsUtf8-append, IsUtf8-from_ascii}

abbrev pub is_ascii : ℕ → Bool
is_ascii b = nat_lt b 128

first : (a b : Bool) → a && b ≡ true → a ≡ true
first true b h = refl
first false b h = let e : false ≡ true = h in cc

second : (a b : Bool) → a && b ≡ true → b ≡ true
second true b h = h
second false b h = let e : false ≡ true = h in cc

below : (b : ℕ) → is_ascii b ≡ true → b < 128
below b h = grind (arith, nat_tests)

ascii : (text : List ℕ) → list_all is_ascii text ≡ true → IsAscii text
ascii [] h i = below 0 refl
ascii (b ∷ text) h zero = below b (first (is_ascii b) _ h)
ascii (b ∷ text) h (suc i) = ascii text (second (is_ascii b) _ h) i

pub utf8_after : (before text out : List ℕ) → out ≡ before ++ text → IsUtf8 text → IsUtf8 before → IsUtf8 out
utf8_after before text out e is_text is_before = subst IsUtf8 (sym e) (IsUtf8-append before text is_before is_text)

-- the same where the text is known, and so the test of it computes
pub literal_after : (before text out : List ℕ) → out ≡ before ++ text → list_all is_ascii text ≡ true → IsUtf8 before → IsUtf8 out
literal_after before text out e is_text = utf8_after before text out e (IsUtf8-from_ascii text (ascii text is_text))

-- a text that a writer gives back, which began with what was written before
pub taken_after : (before start text out : List ℕ) → start ≡ before → out ≡ start ++ text → IsUtf8 text → IsUtf8 before → IsUtf8 out
taken_after before start text out e t = utf8_after before text out (t ∙ ap (λ (l : List ℕ). l ++ text) e)
