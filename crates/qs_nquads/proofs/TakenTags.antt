-- A language tag and the label of a blank node that were taken, after their marks.
use Rattle.std.proofs.Common.{◌≡◌, ℕ, true, List, ◌∷◌, ◌++◌, take, refl, sym, ap, ap₂, ◌∙◌, subst, arith, IsUtf8}
use Rattle.std.specs.Str.{chars}
use Rattle.std.proofs.lemmas.Bool.{and_parts}
use Rattle.std.proofs.lemmas.Str.{encode_ascii, scalars-chars}
use lib.Utf8.{scalar, scalars, encodes}
use Rattle.qs_lex_regular.specs.Form.{Spells, one, many, maybe, char, ◌⨾◌}
use Rattle.qs_lex_regular.specs.Longest.{LongestFront}
use Rattle.qs_terms.specs.Tag.{is_tag}
use Rattle.qs_lex_escapes.proofs.Tags.{tag_form, lawful_tag}
use Rattle.qs_nquads.specs.inner.Part.{behind}
use Rattle.qs_nquads.specs.Table.{table, is_label_start, is_label_char}
use Rattle.qs_nquads.specs.inner.State.{is_label_inner}
use Rattle.qs_nquads.specs.declared.class.Class.{Class}
use Rattle.qs_nquads.specs.declared.class.Class.TheVariants as class
use Rattle.qs_nquads.proofs.TakenEscapes.{this_char, scalars_front}
use Rattle.qs_nquads.proofs.TakenTokens.{token_bytes, spelled}
use Rattle.qs_nquads.proofs.WrittenTokens.{behind_one, behind_two}

scalars_of : (text : List ℕ) (k : Class) (n : ℕ) → IsUtf8 text → (l : LongestFront table (chars text) k n) → scalars l.front ≡ true
scalars_of text k n u l = scalars_front l.front l.rest (subst (λ z. scalars z ≡ true) l.text (scalars-chars text u))

tail_scalars : (c : ℕ) (x y : List ℕ) → x ≡ c ∷ y → scalars x ≡ true → scalars y ≡ true
tail_scalars c x y e h = let t : scalars (c ∷ y) ≡ true = subst (λ z. scalars z ≡ true) e h in let p : (scalar c ≡ true) × (scalars y ≡ true) = and_parts _ _ t in p.1

module _ (text : List ℕ) (n : ℕ) (u : IsUtf8 text) where
  -- ---- tags

  record Tag : Type 0 where
    tag : List ℕ
    form : Spells tag_form tag
    whole : take n text ≡ 64 ∷ encodes tag
    rest : behind (take n text) 1 ≡ encodes tag

  taken_tag : LongestFront table (chars text) class.Tag n → Tag
  taken_tag l =
      let s : Spells (char 64 ⨾ tag_form) l.front = spelled class.Tag l.front l.token in
      let t : List ℕ = s.1 in
      let is : l.front ≡ 64 ∷ t = s.4 ∙ ap (λ z. z ++ t) (this_char 64 s.0 s.2) in
      let ok : scalars t ≡ true = tail_scalars 64 l.front t is (scalars_of text class.Tag n u l) in
      let bytes : take n text ≡ 64 ∷ encodes t = token_bytes text class.Tag n u l ∙ (ap encodes is ∙ ap (λ z. z ++ encodes t) (encode_ascii 64 (omega arith))) in
      record { tag = t; form = s.3; whole = bytes; rest = ap (λ z. behind z 1) bytes ∙ behind_one 64 (encodes t) (omega arith) (t, (ok, refl)) }

  pub lawful : LongestFront table (chars text) class.Tag n → is_tag (behind (take n text) 1) ≡ true
  lawful l = let t : Tag = taken_tag l in ap is_tag t.rest ∙ lawful_tag t.tag t.form

  pub tag_parted : LongestFront table (chars text) class.Tag n → take n text ≡ 64 ∷ behind (take n text) 1
  tag_parted l = let t : Tag = taken_tag l in t.whole ∙ ap (λ z. 64 ∷ z) (sym t.rest)

  -- ---- labels

  pub label_parted : LongestFront table (chars text) class.Label n → take n text ≡ 95 ∷ 58 ∷ behind (take n text) 2
  label_parted l =
      let s : Spells (char 95 ⨾ char 58 ⨾ one is_label_start ⨾ maybe (many (one is_label_inner) ⨾ one is_label_char)) l.front = spelled class.Label l.front l.token in
      let t : List ℕ = s.3.1 in
      let is : l.front ≡ 95 ∷ 58 ∷ t = s.4 ∙ ap₂ (λ (a b : List ℕ). a ++ b) (this_char 95 s.0 s.2) (s.3.4 ∙ ap (λ z. z ++ t) (this_char 58 s.3.0 s.3.2)) in
      let ok : scalars t ≡ true = tail_scalars 58 (58 ∷ t) t refl (tail_scalars 95 l.front (58 ∷ t) is (scalars_of text class.Label n u l)) in
      let bytes : take n text ≡ 95 ∷ 58 ∷ encodes t =
      token_bytes text class.Label n u l ∙ (ap encodes is ∙ ap₂ (λ (a b : List ℕ). a ++ b) (encode_ascii 95 (omega arith)) (ap (λ z. z ++ encodes t) (encode_ascii 58 (omega arith)))) in
      let inner : behind (take n text) 2 ≡ encodes t = ap (λ z. behind z 2) bytes ∙ behind_two 95 58 (encodes t) (omega arith) (omega arith) (t, (ok, refl)) in
      bytes ∙ ap (λ z. 95 ∷ 58 ∷ z) (sym inner)
