-- What a written token says where it is read.
use Rattle.std.proofs.Common.{◌≡◌, ℕ, ◌+◌, ◌-◌, ◌^◌, ◌<◌, ◌≤◌, Bool, true, false, ◌&&◌, ◌||◌, ◌==◌, List, [], ◌∷◌, ◌++◌, length, take, Some, Ok, refl, sym, ap, ap₂, ◌∙◌, subst, inl, inr, arith, append-nil, length-append, true≢false, eqb-true, ltb-true, IsUtf8, nat_lt, ◌%◌}
use Rattle.std.specs.Prelude.{if◌then◌else◌, decimal, not, slice_range}
use Rattle.std.specs.List.{list_all, list_any}
use Rattle.std.specs.Str.{chars}
use Rattle.std.specs.Char.{is_ascii_alphanumeric}
use Rattle.std.proofs.lemmas.Bool.{and_parts, cases_lt}
use Rattle.std.proofs.lemmas.Bool.Decides.{nat_tests}
use Rattle.std.proofs.lemmas.List.{take-append-le, take_all}
use Rattle.std.proofs.lemmas.Str.{IsUtf8-append, chars-append, chars-encodes, encodes-chars, encodes-append, encode_ascii, IsUtf8-nil}
use Rattle.std.proofs.lemmas.Fmt.{decimal_by_steps}
use lib.Utf8.{scalar, scalars, encode, encodes, low_scalar}
use Rattle.qs_lex_regular.specs.Character.{is_iri_char}
use Rattle.qs_lex_regular.specs.inner.Best.{best}
use Rattle.qs_lex_escapes.specs.Escape.{uchar, string_escape}
use Rattle.qs_lex_escapes.specs.Decoded.{decoded, decoded_after}
use Rattle.qs_lex_escapes.proofs.Pieces as pieces
use Rattle.qs_terms.specs.Iri.{is_excluded, has_scheme, checked_iri}
use Rattle.qs_terms.specs.inner.Iri.{is_iri_text}
use Rattle.qs_terms.specs.Tag.{is_tag, is_tag_rest, is_subtag_char}
use Rattle.qs_nquads.specs.Gap.{skip, is_blank}
use Rattle.qs_nquads.specs.inner.Gap.{behind_gap}
use Rattle.qs_nquads.specs.Labels.{Numbering, number}
use Rattle.qs_nquads.specs.Part.{inside}
use Rattle.qs_nquads.specs.inner.Part.{behind, iri_part, blank_part}
use Rattle.qs_nquads.specs.inner.PartAt.{part_of, takes_label, label_part}
use Rattle.qs_nquads.specs.Table.{table}
use Rattle.qs_nquads.specs.declared.class.Class.{Class}
use Rattle.qs_nquads.specs.declared.class.Class.TheVariants as class
use Rattle.qs_nquads.specs.declared.part.Part.{Part}
use Rattle.qs_nquads.specs.declared.part.Part.TheVariants as part
use Rattle.qs_nquads.specs.declared.statement_state.StatementState.{StatementState}
use Rattle.qs_nquads.specs.Written.{label, iri_text, quoted}
use Rattle.qs_nquads.specs.inner.Written.{escaped}
use Rattle.qs_nquads.proofs.Escaped.{decodes, escaped_chars, scalars-append}
use Rattle.qs_nquads.proofs.WrittenFronts.{Takes, iri_front, string_front, carets_front, dot_front, end_front, label_front, tag_front, all_below, below, all-append}

-- a token before the rest of a text: its characters, which begin no gap, are the longest front, of the class
pub record IsToken (token rest : List ℕ) (k : Class) : Type 0 where
  pub characters : List ℕ
  pub scalar : scalars characters ≡ true
  pub bytes : encodes characters ≡ token
  pub begins : (more : List ℕ) → skip false (characters ++ more) ≡ characters ++ more
  pub longest : Takes table characters (chars rest) k
  pub some : 0 < length token

space_chars : (x : List ℕ) → chars (32 ∷ x) ≡ 32 ∷ chars x
unfolding chars
space_chars [] = refl
space_chars (b ∷ x) = refl

module _ (token rest : List ℕ) (k : Class) (t : IsToken token rest k) where
  pub token_utf8 : IsUtf8 token
  token_utf8 = (t.characters, (t.scalar, t.bytes))

  token_chars : chars token ≡ t.characters
  token_chars = ap chars (sym t.bytes) ∙ chars-encodes t.characters t.scalar

  all_chars : chars (token ++ rest) ≡ t.characters ++ chars rest
  all_chars = chars-append token rest token_utf8 ∙ ap (λ z. z ++ chars rest) token_chars

  pub longest_of : best table (chars (token ++ rest)) ≡ Some (k, length token)
  longest_of = ap (λ z. best table z) all_chars ∙ (t.longest ∙ ap (λ (z : List ℕ). let p : Class × ℕ = (k, length z) in Some p) t.bytes)

  pub no_gap : IsUtf8 rest → behind_gap (token ++ rest) ≡ token ++ rest
  no_gap u =
      ap (λ z. encodes (skip false z)) all_chars ∙ (ap encodes (t.begins (chars rest)) ∙ (encodes-append t.characters (chars rest)
      ∙ ap₂ (λ (a b : List ℕ). a ++ b) t.bytes (encodes-chars rest u)))

  pub one_space : IsUtf8 rest → behind_gap (32 ∷ (token ++ rest)) ≡ token ++ rest
  unfolding is_blank
  one_space u = ap (λ z. encodes (skip false z)) (space_chars (token ++ rest)) ∙ no_gap u

-- ---- ASCII

pub ascii_text : (c : ℕ) → c < 128 → (x : List ℕ) → IsUtf8 x → IsUtf8 (c ∷ x)
ascii_text c h x u = let s : scalar c ≡ true = low_scalar c (omega arith) in (c ∷ u.0, (rw s u.1.0, rw (encode_ascii c h) (ap (λ z. c ∷ z) u.1.1)))

pub all_ascii : (p : ℕ → Bool) → ((c : ℕ) → p c ≡ true → c < 128) → (x : List ℕ) → list_all p x ≡ true → (scalars x ≡ true) × (encodes x ≡ x)
all_ascii p h [] e = (refl, refl)
all_ascii p h (c ∷ x) e =
    let q : (p c ≡ true) × (list_all p x ≡ true) = and_parts _ _ e in let l : c < 128 = h c q.0 in
    let s : scalar c ≡ true = low_scalar c (omega arith) in let more : (scalars x ≡ true) × (encodes x ≡ x) = all_ascii p h x q.1 in
    (rw s more.0, rw (encode_ascii c l) (ap (λ z. c ∷ z) more.1))

-- ---- pieces of tokens

pub inside_of : (a b : ℕ) (x : List ℕ) → a < 128 → b < 128 → IsUtf8 x → inside (a ∷ (x ++ b ∷ [])) ≡ x
inside_of a b x ha hb u =
    let whole : IsUtf8 (a ∷ (x ++ b ∷ [])) = ascii_text a ha (x ++ b ∷ []) (IsUtf8-append x (b ∷ []) u (ascii_text b hb [] IsUtf8-nil)) in
    let len : length (a ∷ (x ++ b ∷ [])) ≡ length x + 2 = simp length-append (omega arith) in
    let n : length (a ∷ (x ++ b ∷ [])) - 1 - 1 ≡ length x = omega arith in
    let found : x ≡ slice_range (a ∷ (x ++ b ∷ [])) 1 (length (a ∷ (x ++ b ∷ [])) - 1) =
    sym (ap (λ k. take k (x ++ b ∷ [])) n ∙ (take-append-le (length x) x (b ∷ []) (omega arith) ∙ take_all (length x) x (omega arith))) in
    sym (pieces.some (a ∷ (x ++ b ∷ [])) x 1 (length (a ∷ (x ++ b ∷ [])) - 1) whole u found (omega arith) (omega arith))

pub behind_one : (a : ℕ) (x : List ℕ) → a < 128 → IsUtf8 x → behind (a ∷ x) 1 ≡ x
behind_one a x ha u =
    let n : length (a ∷ x) - 1 ≡ length x = omega arith in
    let found : x ≡ slice_range (a ∷ x) 1 (length (a ∷ x)) = sym (ap (λ k. take k x) n ∙ take_all (length x) x (omega arith)) in
    sym (pieces.some (a ∷ x) x 1 (length (a ∷ x)) (ascii_text a ha x u) u found (omega arith) (omega arith))

pub behind_two : (a b : ℕ) (x : List ℕ) → a < 128 → b < 128 → IsUtf8 x → behind (a ∷ b ∷ x) 2 ≡ x
behind_two a b x ha hb u =
    let n : length (a ∷ b ∷ x) - 2 ≡ length x = omega arith in
    let found : x ≡ slice_range (a ∷ b ∷ x) 2 (length (a ∷ b ∷ x)) = sym (ap (λ k. take k x) n ∙ take_all (length x) x (omega arith)) in
    sym (pieces.some (a ∷ b ∷ x) x 2 (length (a ∷ b ∷ x)) (ascii_text a ha (b ∷ x) (ascii_text b hb x u)) u found (omega arith) (omega arith))

-- ---- what tokens say

-- the token says this part at a place
pub record Says (p : StatementState) (n : Numbering) (token rest : List ℕ) (t : Part) (m : Numbering) : Type 0 where
  pub kind : Class
  pub front : IsToken token rest kind
  pub said : part_of p n kind token ≡ Ok (t, m)

-- IRIs

low_iri : all_below (λ c. is_excluded c || is_iri_char c) 128 ≡ true
unfolding is_iri_char
low_iri = refl

low_char : (c : ℕ) → c < 128 → is_excluded c ≡ false → is_iri_char c ≡ true
low_char c h e = let a : (is_excluded c || is_iri_char c) ≡ true = below (λ c. is_excluded c || is_iri_char c) 128 low_iri c h in rw e at a

high_char : (c : ℕ) → 128 ≤ c → is_iri_char c ≡ true
unfolding is_iri_char
high_char c h = grind (arith, nat_tests)

or-parts : (a b : Bool) → (a || b) ≡ false → (a ≡ false) × (b ≡ false)
or-parts true b e = absurd (true≢false e)
or-parts false b e = (refl, e)

any-parts : (p : ℕ → Bool) (xs ys : List ℕ) → list_any p (xs ++ ys) ≡ false → (list_any p xs ≡ false) × (list_any p ys ≡ false)
any-parts p [] ys e = (refl, e)
any-parts p (x ∷ xs) ys e =
    let q : (p x ≡ false) × (list_any p (xs ++ ys) ≡ false) = or-parts (p x) (list_any p (xs ++ ys)) e in
    let r : (list_any p xs ≡ false) × (list_any p ys ≡ false) = any-parts p xs ys q.1 in (rw q.0 r.0, r.1)

iri_chars : (cs : List ℕ) → list_any is_excluded (encodes cs) ≡ false → list_all is_iri_char cs ≡ true
iri_chars [] e = refl
iri_chars (c ∷ cs) e =
    let q : (list_any is_excluded (encode c) ≡ false) × (list_any is_excluded (encodes cs) ≡ false) = any-parts is_excluded (encode c) (encodes cs) e in
    let one : is_iri_char c ≡ true = elim (cases_lt c 128) [
      | inl low ↦ (let l : list_any is_excluded (c ∷ []) ≡ false = subst (λ z. list_any is_excluded z ≡ false) (encode_ascii c low) q.0 in
          low_char c low (or-parts (is_excluded c) false l).0)
      | inr high ↦ high_char c high
    ] in rw one (iri_chars cs q.1)

-- no backslash, so nothing is decoded
slash_free : (c : ℕ) → is_excluded c ≡ false → (c == 92) ≡ false
slash_free c e = slash_by (c == 92) refl where
  slash_by : (b : Bool) → (c == 92) ≡ b → (c == 92) ≡ false
  slash_by true h = absurd (true≢false (ap is_excluded (sym (eqb-true c 92 h)) ∙ e))
  slash_by false h = h

plain_decodes : (i : List ℕ) → list_any is_excluded i ≡ false → decoded uchar i ≡ i
unfolding decoded_after
plain_decodes [] e = refl
plain_decodes (c ∷ i) e =
    let q : (is_excluded c ≡ false) × (list_any is_excluded i ≡ false) = or-parts (is_excluded c) (list_any is_excluded i) e in
    let s : (c == 92) ≡ false = slash_free c q.0 in rw s (ap (λ z. c ∷ z) (plain_decodes i q.1))

pub not-false : (b : Bool) → not b ≡ true → b ≡ false
not-false true e = absurd (true≢false (sym e))
not-false false e = refl

lawful_parts : (i : List ℕ) → is_iri_text i ≡ true → (has_scheme i ≡ true) × (list_any is_excluded i ≡ false)
lawful_parts i h = let q : (has_scheme i ≡ true) × (not (list_any is_excluded i) ≡ true) = and_parts _ _ h in (q.0, not-false (list_any is_excluded i) q.1)

pub checked : (i : List ℕ) → is_iri_text i ≡ true → checked_iri i ≡ Ok i
checked i h = let q = lawful_parts i h in let a : has_scheme i ≡ true = q.0 in let b : list_any is_excluded i ≡ false = q.1 in rw (a, b) refl

-- a lawful IRI as it is written
pub iri_again : (n : Numbering) (i : List ℕ) → is_iri_text i ≡ true → iri_part n (checked_iri (decoded uchar i)) ≡ Ok (part.Iri i, n)
iri_again n i h = ap (λ z. iri_part n (checked_iri z)) (plain_decodes i (lawful_parts i h).1) ∙ ap (iri_part n) (checked i h)

pub two : (a b : ℕ) (cs x : List ℕ) → a < 128 → b < 128 → scalars cs ≡ true → encodes cs ≡ x → (scalars (a ∷ (cs ++ b ∷ [])) ≡ true) × (encodes (a ∷ (cs ++ b ∷ [])) ≡ a ∷ (x ++ b ∷ []))
two a b cs x ha hb s e =
    let sa : scalar a ≡ true = low_scalar a (omega arith) in let sb : scalar b ≡ true = low_scalar b (omega arith) in
    let last : scalars (b ∷ []) ≡ true = rw sb refl in
    let bytes : encodes (b ∷ []) ≡ b ∷ [] = append-nil (encode b) ∙ encode_ascii b hb in (
      rw sa (scalars-append cs (b ∷ []) s last),
      ap₂ (λ (u v : List ℕ). u ++ v) (encode_ascii a ha) (encodes-append cs (b ∷ []) ∙ ap₂ (λ (u v : List ℕ). u ++ v) e bytes),
    )

pub iri_says : (p : StatementState) (n : Numbering) (i rest : List ℕ) → IsUtf8 i → is_iri_text i ≡ true → Says p n (iri_text i) rest (part.Iri i) n
unfolding is_blank
iri_says p n i rest u h =
    let q = lawful_parts i h in
    let cs : List ℕ = u.0 in
    let bytes : encodes cs ≡ i = u.1.1 in
    let t = two 60 62 cs i (omega arith) (omega arith) u.1.0 bytes in
    let free : list_any is_excluded (encodes cs) ≡ false = ap (λ z. list_any is_excluded z) bytes ∙ q.1 in
    record {
      kind = class.Iri;
      front = record { characters = 60 ∷ (cs ++ 62 ∷ []); scalar = t.0; bytes = t.1; begins = λ more. refl; longest = iri_front cs (chars rest) (iri_chars cs free); some = omega arith };
      said = ap (λ z. iri_part n (checked_iri (decoded uchar z))) (inside_of 60 62 i (omega arith) (omega arith) u)
          ∙ (ap (λ z. iri_part n (checked_iri z)) (plain_decodes i q.1) ∙ ap (iri_part n) (checked i h));
    }

-- strings

pub string_says : (p : StatementState) (n : Numbering) (form rest : List ℕ) → IsUtf8 form → Says p n (quoted form) rest (part.Form form) n
unfolding is_blank
string_says p n form rest u =
    let cs : List ℕ = u.0 in
    let esc = escaped_chars cs u.1.0 in
    let bytes : encodes (escaped cs) ≡ escaped form = esc.0 ∙ ap escaped u.1.1 in
    let t = two 34 34 (escaped cs) (escaped form) (omega arith) (omega arith) esc.1 bytes in
    let inner : IsUtf8 (escaped form) = (escaped cs, (esc.1, bytes)) in
    record {
      kind = class.String;
      front = record { characters = 34 ∷ (escaped cs ++ 34 ∷ []); scalar = t.0; bytes = t.1; begins = λ more. refl; longest = string_front cs (chars rest); some = omega arith };
      said = ap (λ z. Ok (part.Form z, n)) (ap (λ z. decoded string_escape z) (inside_of 34 34 (escaped form) (omega arith) (omega arith) inner) ∙ decodes form);
    }

-- `^^`, `.` and LF

pub carets_say : (p : StatementState) (n : Numbering) (rest : List ℕ) → Says p n (94 ∷ 94 ∷ []) rest part.Carets n
unfolding is_blank encode
carets_say p n rest = record {
  kind = class.Carets;
  front = record { characters = 94 ∷ 94 ∷ []; scalar = refl; bytes = refl; begins = λ more. refl; longest = carets_front (chars rest); some = omega arith };
  said = refl;
}

pub dot_says : (p : StatementState) (n : Numbering) (rest : List ℕ) → Says p n (46 ∷ []) rest part.Dot n
unfolding is_blank encode
dot_says p n rest = record {
  kind = class.Dot;
  front = record { characters = 46 ∷ []; scalar = refl; bytes = refl; begins = λ more. refl; longest = dot_front (chars rest); some = omega arith };
  said = refl;
}

pub end_says : (p : StatementState) (n : Numbering) (rest : List ℕ) → Says p n (10 ∷ []) rest part.LineEnd n
unfolding is_blank encode
end_says p n rest = record {
  kind = class.LineEnd;
  front = record { characters = 10 ∷ []; scalar = refl; bytes = refl; begins = λ more. refl; longest = end_front (chars rest); some = omega arith };
  said = refl;
}

-- tags, before a space

abbrev pub is_tag_char : ℕ → Bool
is_tag_char c = c == 45 || is_ascii_alphanumeric c

pub tag_small : (c : ℕ) → is_tag_char c ≡ true → c < 128
tag_small c h = grind (arith, nat_tests)

letter_number : (first : Bool) (c : ℕ) → is_subtag_char first c ≡ true → is_tag_char c ≡ true
letter_number first c h = grind (arith, nat_tests)

pub tag_chars : (t : List ℕ) (first empty : Bool) → is_tag_rest first empty t ≡ true → list_all is_tag_char t ≡ true
tag_chars [] first empty h = refl
tag_chars (c ∷ t) first empty h = by (c == 45) refl h (tag_chars t) where
  by : (b : Bool) → (c == 45) ≡ b → (if b then (not empty && is_tag_rest false true t) else (is_subtag_char first c && is_tag_rest first false t)) ≡ true
      → ((f e : Bool) → is_tag_rest f e t ≡ true → list_all is_tag_char t ≡ true) → list_all is_tag_char (c ∷ t) ≡ true
  by true e k next = let q : (not empty ≡ true) × (is_tag_rest false true t ≡ true) = and_parts _ _ k in rw e (next false true q.1)
  by false e k next =
      let q : (is_subtag_char first c ≡ true) × (is_tag_rest first false t ≡ true) = and_parts _ _ k in
      let one : is_tag_char c ≡ true = letter_number first c q.0 in rw one (next first false q.1)

pub tag_says : (p : StatementState) (n : Numbering) (t rest : List ℕ) → is_tag t ≡ true → Says p n (64 ∷ t) (32 ∷ rest) (part.Tag t) n
unfolding is_blank
tag_says p n t rest h =
    let a : (scalars t ≡ true) × (encodes t ≡ t) = all_ascii is_tag_char tag_small t (tag_chars t true true h) in
    let u : IsUtf8 t = (t, a) in
    record {
      kind = class.Tag;
      front = record {
        characters = 64 ∷ t;
        scalar = a.0;
        bytes = ap₂ (λ (u v : List ℕ). u ++ v) (encode_ascii 64 (omega arith)) a.1;
        begins = λ more. refl;
        longest = subst (λ z. Takes table (64 ∷ t) z class.Tag) (sym (space_chars rest)) (tag_front t (chars rest) h);
        some = omega arith;
      };
      said = ap (λ z. Ok (part.Tag z, n)) (behind_one 64 t (omega arith) u);
    }

-- labels, before a space

low_digits : (d : ℕ) → d < 10 → nat_lt (48 + d) 128 ≡ true
low_digits d h = grind (arith, nat_tests)

label_ascii : (n : ℕ) → n < 2 ^ 64 → list_all (λ c. nat_lt c 128) (decimal n) ≡ true
label_ascii = decimal_by_steps (λ n ds. list_all (λ c. nat_lt c 128) ds ≡ true)
    (λ n h. let a = low_digits n h in rw a refl)
    (λ n ds h p. let a = low_digits (n % 10) (omega arith) in all-append (λ c. nat_lt c 128) ds ((48 + n % 10) ∷ []) p (rw a refl))

pub label_says : (p : StatementState) (n m : Numbering) (b number_of : ℕ) (rest : List ℕ) → b < 2 ^ 64 → takes_label p ≡ true → number n (label b) ≡ Ok (number_of, m)
    → Says p n (95 ∷ 58 ∷ label b) (32 ∷ rest) (part.Blank number_of) m
unfolding is_blank
label_says p n m b number_of rest h l e =
    let digits : list_all (λ c. nat_lt c 128) (label b) ≡ true = label_ascii b h in
    let a : (scalars (label b) ≡ true) × (encodes (label b) ≡ label b) = all_ascii (λ c. nat_lt c 128) (λ c t. ltb-true c 128 t) (label b) digits in
    let u : IsUtf8 (label b) = (label b, a) in
    record {
      kind = class.Label;
      front = record {
        characters = 95 ∷ 58 ∷ label b;
        scalar = a.0;
        bytes = ap₂ (λ (u v : List ℕ). u ++ v) (encode_ascii 95 (omega arith)) (ap₂ (λ (u v : List ℕ). u ++ v) (encode_ascii 58 (omega arith)) a.1);
        begins = λ more. refl;
        longest = subst (λ z. Takes table (95 ∷ 58 ∷ label b) z class.Label) (sym (space_chars rest)) (label_front b (chars rest) h);
        some = omega arith;
      };
      said = ap (λ z. label_part n z (behind (95 ∷ 58 ∷ label b) 2)) l ∙ (ap (λ z. blank_part (number n z)) (behind_two 95 58 (label b) (omega arith) (omega arith) u) ∙ ap blank_part e);
    }

pub label_utf8 : (b : ℕ) → b < 2 ^ 64 → IsUtf8 (label b)
label_utf8 b h =
    let digits : list_all (λ c. nat_lt c 128) (label b) ≡ true = label_ascii b h in
    (label b, all_ascii (λ c. nat_lt c 128) (λ c t. ltb-true c 128 t) (label b) digits)
