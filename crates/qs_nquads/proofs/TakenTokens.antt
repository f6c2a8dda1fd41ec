-- A token that was taken from a text, as bytes.
use Rattle.std.proofs.Common.{◌≡◌, ℕ, inl, inr, List, [], ◌∷◌, ◌++◌, length, take, refl, sym, ap, ◌∙◌, subst, arith, IsUtf8}
use Rattle.std.specs.Str.{chars}
use Rattle.std.proofs.lemmas.List.{take-append-le, take_all}
use Rattle.std.proofs.lemmas.Str.{encodes-append, encodes-chars}
use lib.Utf8.{encodes}
use Rattle.std.specs.Prelude.{⊤}
use Rattle.qs_lex_regular.specs.Character.{is_letter, is_letter_or_digit, is_one_of}
use Rattle.qs_lex_regular.specs.Form.{Form, Spells, one, many, plus, maybe, char, ◌⨾◌, ◌∣◌}
use Rattle.qs_lex_regular.specs.Longest.{LongestFront, IsFirst, Table}
use Rattle.qs_nquads.specs.Table.{table, iri_body, string_body, is_label_start, is_label_char}
use Rattle.qs_nquads.specs.inner.State.{is_label_inner}
use Rattle.qs_nquads.specs.declared.class.Class.{Class}
use Rattle.qs_nquads.specs.declared.class.Class.TheVariants as class

-- ---- the form of its class

abbrev pub form_of : Class → Form
form_of class.Iri = char 60 ⨾ iri_body ⨾ char 62
form_of class.String = char 34 ⨾ string_body ⨾ char 34
form_of class.Tag = char 64 ⨾ plus (one is_letter) ⨾ many (char 45 ⨾ plus (one is_letter_or_digit))
form_of class.Label = char 95 ⨾ char 58 ⨾ one is_label_start ⨾ maybe (many (one is_label_inner) ⨾ one is_label_char)
form_of class.Carets = char 94 ⨾ char 94
form_of class.Dot = char 46
form_of class.LineEnd = one (is_one_of (10 ∷ 13 ∷ []))
form_of class.Open = char 60 ⨾ iri_body ∣ char 34 ⨾ string_body
form_of class.Broken = (char 60 ⨾ iri_body) ⨾ char 92 ∣ (char 34 ⨾ string_body) ⨾ char 92

abbrev HasForms : Table Class → Type 0
HasForms [] = ⊤
HasForms (f ∷ fs) = (f.1 ≡ form_of f.0) × HasForms fs

spelled_in : (fs : Table Class) (k : Class) (x : List ℕ) → HasForms fs → IsFirst fs k x → Spells (form_of k) x
spelled_in [] k x m h = absurd h
spelled_in (f ∷ fs) k x m h = elim h [
  | inl a ↦ subst (λ j. Spells (form_of j) x) a.0 (subst (λ r. Spells r x) m.0 a.1)
  | inr b ↦ spelled_in fs k x m.1 b.1
]

pub spelled : (k : Class) (x : List ℕ) → IsFirst table k x → Spells (form_of k) x
spelled k x h = spelled_in table k x (refl, (refl, (refl, (refl, (refl, (refl, (refl, (refl, (refl, tt))))))))) h

-- ---- its bytes

pub token_bytes : (text : List ℕ) (k : Class) (n : ℕ) → IsUtf8 text → (l : LongestFront table (chars text) k n) → take n text ≡ encodes l.front
token_bytes text k n u l =
    let whole : text ≡ encodes l.front ++ encodes l.rest = sym (encodes-chars text u) ∙ (ap encodes l.text ∙ encodes-append l.front l.rest) in
    ap (λ z. take n z) whole ∙ (ap (λ m. take m (encodes l.front ++ encodes l.rest)) l.bytes
    ∙ (take-append-le (length (encodes l.front)) (encodes l.front) (encodes l.rest) (omega arith) ∙ take_all (length (encodes l.front)) (encodes l.front) (omega arith)))
