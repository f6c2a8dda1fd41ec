-- In a token of an IRI or a string that was taken an escape begins at each backslash.
use Rattle.std.proofs.Common.{◌≡◌, ℕ, ◌<◌, true, List, [], ◌∷◌, ◌++◌, take, Option, inl, inr, refl, sym, ap, ap₂, ◌∙◌, subst, arith, eqb-true, IsUtf8}
use Rattle.std.specs.Str.{chars}
use Rattle.std.proofs.lemmas.Bool.{and_parts}
use Rattle.std.proofs.lemmas.Str.{scalars-chars}
use lib.Utf8.{scalar, scalars, encodes}
use Rattle.qs_lex_regular.specs.Character.{is_scalar}
use Rattle.qs_lex_regular.specs.Form as form
use Rattle.qs_lex_regular.specs.Form.{Form, Spells, one, char, ◌⨾◌, ◌∣◌}
use Rattle.qs_lex_regular.specs.Longest.{LongestFront}
use Rattle.qs_lex_escapes.specs.Escape.{uchar, string_escape}
use Rattle.qs_lex_escapes.specs.declared.escape.Escape.{Escape}
use Rattle.qs_lex_escapes.specs.inner.Backslashes.{escapes_begin}
use Rattle.qs_lex_escapes.proofs.SpelledEscapes.{Stands, any, all_any, pieces_stand, string_character, string_codepoint, echar_stands, iri_stands, escapes_stand}
use Rattle.qs_nquads.specs.Part.{inside}
use Rattle.qs_nquads.specs.Table.{table, iri_body, string_body, is_string_char}
use Rattle.qs_nquads.specs.declared.class.Class.{Class}
use Rattle.qs_nquads.specs.declared.class.Class.TheVariants as class
use Rattle.qs_nquads.proofs.Apart as apart
use Rattle.qs_nquads.proofs.TakenTokens.{token_bytes, spelled}
use Rattle.qs_nquads.proofs.WrittenTokens.{inside_of, two}

-- ---- bodies of tokens

iri_whole : (x : List ℕ) → Spells iri_body x → Stands uchar any x
iri_whole = iri_stands any is_scalar (λ v h. h) (λ v h. all_any v) (λ c h. all_any c)

string_whole : (x : List ℕ) → Spells string_body x → Stands string_escape any x
string_whole = pieces_stand string_escape any (Spells (one is_string_char ∣ form.echar ∣ form.uchar is_scalar)) (λ x s. elim s [
  | inl a ↦ string_character is_string_char apart.string_backslash x a
  | inr b ↦ (elim b [ inl d ↦ echar_stands x d | inr e ↦ string_codepoint x e ])
])

-- ---- between two marks

pub scalars_front : (x y : List ℕ) → scalars (x ++ y) ≡ true → scalars x ≡ true
scalars_front [] y h = refl
scalars_front (c ∷ x) y h =
    let q : (scalar c ≡ true) × (scalars (x ++ y) ≡ true) = and_parts _ _ h in
    let one : scalar c ≡ true = q.0 in rw one (scalars_front x y q.1)

-- the bytes of a token between two marks, which are a text
record Marked (a b : ℕ) (body token : List ℕ) : Type 0 where
  whole : token ≡ a ∷ (encodes body ++ b ∷ [])
  inner : inside token ≡ encodes body

marked_bytes : (text : List ℕ) (n : ℕ) (k : Class) (a b : ℕ) (body : List ℕ) → IsUtf8 text → (l : LongestFront table (chars text) k n) → a < 128 → b < 128 → l.front ≡ a ∷ (body ++ b ∷ []) → Marked a b body (take n text)
marked_bytes text n k a b body u l ha hb is =
    let s : scalars l.front ≡ true = scalars_front l.front l.rest (subst (λ z. scalars z ≡ true) l.text (scalars-chars text u)) in
    let t : scalars (a ∷ (body ++ b ∷ [])) ≡ true = subst (λ z. scalars z ≡ true) is s in
    let q : (scalar a ≡ true) × (scalars (body ++ b ∷ []) ≡ true) = and_parts _ _ t in
    let ok : scalars body ≡ true = scalars_front body (b ∷ []) q.1 in
    let bytes : take n text ≡ a ∷ (encodes body ++ b ∷ []) = token_bytes text k n u l ∙ (ap encodes is ∙ (two a b body (encodes body) ha hb ok refl).1) in
    record { whole = bytes; inner = ap inside bytes ∙ inside_of a b (encodes body) ha hb (body, (ok, refl)) }

pub this_char : (c : ℕ) (x : List ℕ) → Spells (char c) x → x ≡ c ∷ []
this_char c x s = s.2 ∙ ap (λ d. d ∷ []) (eqb-true s.0 c s.1)

marked : (a b : ℕ) (r : Form) (x : List ℕ) → Spells (char a ⨾ r ⨾ char b) x → (body : List ℕ) × Spells r body × (x ≡ a ∷ (body ++ b ∷ []))
marked a b r x s =
    let inner = s.3 in
    (inner.0, inner.2, s.4 ∙ ap₂ (λ (u v : List ℕ). u ++ v) (this_char a s.0 s.2) (inner.4 ∙ ap (λ z. inner.0 ++ z) (this_char b inner.1 inner.3)))

all_begin : (escape : List ℕ → Option Escape) (a b : ℕ) (body token : List ℕ) → Marked a b body token → Stands escape any body → escapes_begin escape (inside token) ≡ true
all_begin escape a b body token m t = ap (λ z. escapes_begin escape z) m.inner ∙ escapes_stand escape body t.characters t.stand

parted : (a b : ℕ) (body token : List ℕ) → Marked a b body token → token ≡ a ∷ (inside token ++ b ∷ [])
parted a b body token m = m.whole ∙ ap (λ z. a ∷ (z ++ b ∷ [])) (sym m.inner)

module _ (text : List ℕ) (n : ℕ) (u : IsUtf8 text) where
  iri_token : (l : LongestFront table (chars text) class.Iri n) → (body : List ℕ) × Spells iri_body body × Marked 60 62 body (take n text)
  iri_token l =
      let m : (body : List ℕ) × Spells iri_body body × (l.front ≡ 60 ∷ (body ++ 62 ∷ [])) = marked 60 62 iri_body l.front (spelled class.Iri l.front l.token) in
      (m.0, m.1, marked_bytes text n class.Iri 60 62 m.0 u l (omega arith) (omega arith) m.2)

  string_token : (l : LongestFront table (chars text) class.String n) → (body : List ℕ) × Spells string_body body × Marked 34 34 body (take n text)
  string_token l =
      let m : (body : List ℕ) × Spells string_body body × (l.front ≡ 34 ∷ (body ++ 34 ∷ [])) = marked 34 34 string_body l.front (spelled class.String l.front l.token) in
      (m.0, m.1, marked_bytes text n class.String 34 34 m.0 u l (omega arith) (omega arith) m.2)

  pub in_iri : LongestFront table (chars text) class.Iri n → escapes_begin uchar (inside (take n text)) ≡ true
  in_iri l = let t = iri_token l in all_begin uchar 60 62 t.0 (take n text) t.2 (iri_whole t.0 t.1)

  pub in_string : LongestFront table (chars text) class.String n → escapes_begin string_escape (inside (take n text)) ≡ true
  in_string l = let t = string_token l in all_begin string_escape 34 34 t.0 (take n text) t.2 (string_whole t.0 t.1)

  pub iri_parted : LongestFront table (chars text) class.Iri n → take n text ≡ 60 ∷ (inside (take n text) ++ 62 ∷ [])
  iri_parted l = let t = iri_token l in parted 60 62 t.0 (take n text) t.2

  pub string_parted : LongestFront table (chars text) class.String n → take n text ≡ 34 ∷ (inside (take n text) ++ 34 ∷ [])
  string_parted l = let t = string_token l in parted 34 34 t.0 (take n text) t.2
