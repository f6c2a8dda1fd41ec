-- What the characters of a token are, by its class.
use Rattle.std.proofs.Common.{◌≡◌, ◌⊎◌, inl, inr, ◌<◌, ◌≤◌, ℕ, Bool, true, false, ◌==◌, ◌||◌, not, List, [], ◌∷◌, ◌++◌, refl, sym, ap, ap₂, ◌∙◌, subst, arith, append_assoc, append-nil, true≢false, eqb-true, IsUtf8}
use Rattle.std.specs.List.{list_all, list_any}
use Rattle.std.specs.Prelude.{⊤}
use Rattle.std.proofs.lemmas.Bool.{and_parts, not-true, or_cases, cases_Bool}
use Rattle.std.proofs.lemmas.Bool.Decides.{nat_tests}
use Rattle.std.proofs.lemmas.Str.{encode_ascii, encodes-append}
use lib.Utf8.{scalar, scalars, encode, encodes}
use Rattle.qs_lex_escapes.specs.Decoded.{unescaped}
use Rattle.qs_lex_escapes.specs.Escape.{string_escape}
use Rattle.qs_lex_regular.specs.Character.{is_one_of, is_digit, is_hex, is_base, is_pn_chars_u, is_mark_in_name, is_pn_chars, is_iri_char, is_iri_scalar, is_scalar}
use Rattle.qs_lex_regular.specs.Form as form
use Rattle.qs_lex_regular.specs.Form.{Form, Spells, Pieces, none, more, one, many, nothing, maybe, plus, char, literal, ◌⨾◌, ◌∣◌}
use Rattle.qs_lex_regular.specs.Longest.{Table, IsFirst}
use Rattle.qs_terms.specs.Iri.{is_excluded}
use Rattle.qs_lex_escapes.proofs.Bytes.{within, other_than, bytes_pass, first_byte, none_any}
use Rattle.qs_lex_escapes.proofs.SpelledEscapes.{Stands, any, pieces_stand, string_character, string_codepoint, echar_stands, escapes_stand, lawful_iri, this_char}
use Rattle.qs_lex_escapes.proofs.Spelled.{Within, spelled_pass}
use Rattle.qs_lex_escapes.proofs.Tags.{tag_form, lawful_tag}
use Rattle.qs_lex.specs.inner.Parts.{IsIri, IsName, IsPrefix, IsBehind, IsVariable, IsLangTag, IsString, IsMadeOf, begins_with}
use Rattle.qs_lex.specs.Table.{table, is_escapable, name_escape, pname_ns, local_first, local_middle, local_last, short_string, long_string}
use Rattle.qs_lex.specs.inner.Table.{IsToken, prefix}
use Rattle.qs_lex.specs.declared.token.Class.{Class}
use Rattle.qs_lex.specs.declared.token.Class.TheVariants as class

-- ---- the form of its class

abbrev iri_body : Form
iri_body = many (one is_iri_char ∣ form.uchar is_iri_scalar)

abbrev local : Form
local = local_first ⨾ maybe (many local_middle ⨾ local_last)

abbrev label_rest : Form
label_rest = one (λ c. is_pn_chars_u c || is_digit c) ⨾ maybe (many (one (λ c. is_pn_chars c || c == 46)) ⨾ one is_pn_chars)

abbrev variable_rest : Form
variable_rest = one (λ c. is_pn_chars_u c || is_digit c) ⨾ many (one (λ c. is_pn_chars_u c || is_digit c || is_mark_in_name c))

-- of the classes that have parts
abbrev HasForm : Class → List ℕ → Type 0
HasForm class.IriRef x = Spells (char 60 ⨾ iri_body ⨾ char 62) x
HasForm class.PnameNs x = Spells pname_ns x
HasForm class.PnameLn x = Spells (pname_ns ⨾ local) x
HasForm class.BlankLabel x = Spells ((char 95 ⨾ char 58) ⨾ label_rest) x
HasForm class.Var x = Spells (one (is_one_of (63 ∷ 36 ∷ [])) ⨾ variable_rest) x
HasForm class.String x = Spells (short_string 34 ∣ short_string 39 ∣ long_string 34 ∣ long_string 39) x
HasForm class.LangTag x = Spells (char 64 ⨾ tag_form) x
HasForm class.Integer x = Unit {0}
HasForm class.Signed x = Unit {0}
HasForm class.Decimal x = Unit {0}
HasForm class.Double x = Unit {0}
HasForm class.Word x = Unit {0}
HasForm class.Mark x = Unit {0}

abbrev HasForms : Table Class → Type 0
HasForms [] = ⊤
HasForms (f ∷ fs) = ((x : List ℕ) → Spells f.1 x → HasForm f.0 x) × HasForms fs

spelled_in : (fs : Table Class) (k : Class) (x : List ℕ) → HasForms fs → IsFirst fs k x → HasForm k x
spelled_in [] k x m h = absurd h
spelled_in (f ∷ fs) k x m h = elim h [
  | inl a ↦ subst (λ j. HasForm j x) a.0 (m.0 x a.1)
  | inr b ↦ spelled_in fs k x m.1 b.1
]

all_forms : HasForms table
all_forms = (λ x s. s, (λ x s. s, (λ x s. s, (λ x s. s, (λ x s. s, (λ x s. tt, (λ x s. tt, (λ x s. tt, (λ x s. tt, (λ x s. s, (λ x s. s, (λ x s. tt, (λ x s. tt, tt)))))))))))))

spelled : (k : Class) (x : List ℕ) → IsToken k x → HasForm k x
spelled k x h = spelled_in table k x all_forms h

-- ---- texts and their parts

pub front_scalars : (x y : List ℕ) → scalars (x ++ y) ≡ true → scalars x ≡ true
front_scalars [] y h = refl
front_scalars (c ∷ x) y h =
    let q : (scalar c ≡ true) × (scalars (x ++ y) ≡ true) = and_parts _ _ h in
    let one : scalar c ≡ true = q.0 in rw one (front_scalars x y q.1)

pub back_scalars : (x y : List ℕ) → scalars (x ++ y) ≡ true → scalars y ≡ true
back_scalars [] y h = h
back_scalars (c ∷ x) y h = let q : (scalar c ≡ true) × (scalars (x ++ y) ≡ true) = and_parts _ _ h in back_scalars x y q.1

scalars_at : (x y : List ℕ) → x ≡ y → scalars x ≡ true → scalars y ≡ true
scalars_at x y e h = subst (λ z. scalars z ≡ true) e h

as_text : (x : List ℕ) → scalars x ≡ true → IsUtf8 (encodes x)
as_text x h = (x, (h, refl))

low : (c : ℕ) (x : List ℕ) → c < 128 → encodes (c ∷ x) ≡ c ∷ encodes x
low c x l = ap (λ z. z ++ encodes x) (encode_ascii c l)

marked : (a b : ℕ) (r : Form) (x : List ℕ) → Spells (char a ⨾ r ⨾ char b) x → (body : List ℕ) × Spells r body × (x ≡ a ∷ (body ++ b ∷ []))
marked a b r x s =
    let inner = s.3 in
    (inner.0, inner.2, s.4 ∙ ap₂ (λ (u v : List ℕ). u ++ v) (this_char a s.0 s.2) (inner.4 ∙ ap (λ z. inner.0 ++ z) (this_char b inner.1 inner.3)))

-- ---- IRIs

iri_token : (x : List ℕ) → scalars x ≡ true → HasForm class.IriRef x → IsIri (encodes x)
iri_token x ok s =
    let m : (body : List ℕ) × Spells iri_body body × (x ≡ 60 ∷ (body ++ 62 ∷ [])) = marked 60 62 iri_body x s in
    let h : scalars (m.0 ++ 62 ∷ []) ≡ true = back_scalars (60 ∷ []) (m.0 ++ 62 ∷ []) (scalars_at x (60 ∷ (m.0 ++ 62 ∷ [])) m.2 ok) in
    let l = lawful_iri m.0 m.1 in record {
      iri = encodes m.0;
      text = ap encodes m.2 ∙ (low 60 (m.0 ++ 62 ∷ []) (omega arith) ∙ ap (λ z. 60 ∷ z) (encodes-append m.0 (62 ∷ []) ∙ ap (λ z. encodes m.0 ++ z) (low 62 [] (omega arith))));
      utf8 = as_text m.0 (front_scalars m.0 (62 ∷ []) h);
      escapes = l.0;
      lawful = l.1;
    }

-- ---- names

-- no character that IRIs exclude, or a backslash
abbrev is_local : ℕ → Bool
is_local b = not (is_excluded b) || b == 92

high_local : (b : ℕ) → 128 ≤ b → is_local b ≡ true
high_local b h = grind (arith, nat_tests)

first_local : (c : ℕ) → (is_pn_chars_u c || c == 58 || is_digit c) ≡ true → is_local c ≡ true
unfolding is_pn_chars_u is_base is_digit
first_local = within (λ c. is_pn_chars_u c || c == 58 || is_digit c) is_local refl high_local

middle_local : (c : ℕ) → (is_pn_chars c || c == 46 || c == 58) ≡ true → is_local c ≡ true
unfolding is_pn_chars is_pn_chars_u is_base is_digit is_mark_in_name
middle_local = within (λ c. is_pn_chars c || c == 46 || c == 58) is_local refl high_local

last_local : (c : ℕ) → (is_pn_chars c || c == 58) ≡ true → is_local c ≡ true
unfolding is_pn_chars is_pn_chars_u is_base is_digit is_mark_in_name
last_local = within (λ c. is_pn_chars c || c == 58) is_local refl high_local

hex_local : (c : ℕ) → is_hex c ≡ true → is_local c ≡ true
unfolding is_hex
hex_local = within is_hex is_local refl high_local

escaped_local : (c : ℕ) → is_escapable c ≡ true → is_local c ≡ true
unfolding is_escapable
escaped_local = within is_escapable is_local refl high_local

percent_local : (c : ℕ) → (c == 37) ≡ true → is_local c ≡ true
percent_local = within (λ c. c == 37) is_local refl high_local

slash_local : (c : ℕ) → (c == 92) ≡ true → is_local c ≡ true
slash_local = within (λ c. c == 92) is_local refl high_local

within_escape : Within is_local name_escape
within_escape = ((percent_local, (hex_local, hex_local)), (slash_local, escaped_local))

within_local : Within is_local local
within_local = ((first_local, within_escape), (((middle_local, within_escape), (last_local, within_escape)), tt))

-- without its backslashes
free_unescaped : (xs : List ℕ) → list_all is_local xs ≡ true → list_any is_excluded (unescaped xs) ≡ false
free_unescaped [] h = refl
free_unescaped (b ∷ xs) h =
    let p : (is_local b ≡ true) × (list_all is_local xs ≡ true) = and_parts _ _ h in
    let rest : list_any is_excluded (unescaped xs) ≡ false = free_unescaped xs p.1 in
    elim (cases_Bool (b == 92)) [
      | inl slash ↦ rw slash rest
      | inr other ↦ (elim (or_cases (not (is_excluded b)) (b == 92) p.0) [
        | inl free ↦ (let n : is_excluded b ≡ false = not-true (is_excluded b) free in rw (other, n) rest)
        | inr slash ↦ absurd (true≢false (sym slash ∙ other))
      ])
    ]

prefix_first : (c : ℕ) → is_base c ≡ true → not (c == 58) ≡ true
unfolding is_base
prefix_first = within is_base (λ c. not (c == 58)) refl (other_than 58 (omega arith))

prefix_middle : (c : ℕ) → (is_pn_chars c || c == 46) ≡ true → not (c == 58) ≡ true
unfolding is_pn_chars is_pn_chars_u is_base is_digit is_mark_in_name
prefix_middle = within (λ c. is_pn_chars c || c == 46) (λ c. not (c == 58)) refl (other_than 58 (omega arith))

prefix_last : (c : ℕ) → is_pn_chars c ≡ true → not (c == 58) ≡ true
unfolding is_pn_chars is_pn_chars_u is_base is_digit is_mark_in_name
prefix_last = within is_pn_chars (λ c. not (c == 58)) refl (other_than 58 (omega arith))

within_prefix : Within (λ c. not (c == 58)) (maybe prefix)
within_prefix = ((prefix_first, ((prefix_middle, prefix_last), tt)), tt)

no_colon_in : (x : List ℕ) → Spells (maybe prefix) x → list_any (λ c. c == 58) (encodes x) ≡ false
no_colon_in x s = none_any (λ c. c == 58) (encodes x) (bytes_pass (λ c. not (c == 58)) (other_than 58 (omega arith)) x (spelled_pass (λ c. not (c == 58)) (maybe prefix) within_prefix x s))

name_of : (x front name : List ℕ) → scalars x ≡ true → (s : Spells pname_ns front) → x ≡ front ++ name → list_any is_excluded (unescaped (encodes name)) ≡ false → IsName (encodes x)
name_of x front name ok s e free =
    let is : front ≡ s.0 ++ 58 ∷ [] = s.4 ∙ ap (λ z. s.0 ++ z) (this_char 58 s.1 s.3) in
    let whole : x ≡ s.0 ++ 58 ∷ name = e ∙ (ap (λ z. z ++ name) is ∙ append_assoc s.0 (58 ∷ []) name) in record {
      prefix = encodes s.0;
      local = encodes name;
      text = ap encodes whole ∙ (encodes-append s.0 (58 ∷ name) ∙ ap (λ z. encodes s.0 ++ z) (low 58 name (omega arith)));
      utf8 = as_text s.0 (front_scalars s.0 (58 ∷ name) (scalars_at x (s.0 ++ 58 ∷ name) whole ok));
      no_colon = no_colon_in s.0 s.2;
      lawful = free;
    }

name_token : (x : List ℕ) → scalars x ≡ true → HasForm class.PnameLn x → IsName (encodes x)
name_token x ok s = name_of x s.0 s.1 ok s.2 s.4 (free_unescaped (encodes s.1) (bytes_pass is_local high_local s.1 (spelled_pass is_local local within_local s.1 s.3)))

prefix_token : (x : List ℕ) → scalars x ≡ true → HasForm class.PnameNs x → IsPrefix (encodes x)
unfolding name_of
prefix_token x ok s = record { name = name_of x x [] ok s (sym (append-nil x)) refl; empty = refl }

-- ---- after marks

behind_mark : (c : ℕ) (x rest : List ℕ) → c < 128 → scalars x ≡ true → x ≡ c ∷ rest → IsBehind (c ∷ []) (encodes x)
behind_mark c x rest l ok e =
    record { rest = encodes rest; text = ap encodes e ∙ low c rest l; utf8 = as_text rest (back_scalars (c ∷ []) rest (scalars_at x (c ∷ rest) e ok)) }

label_token : (x : List ℕ) → scalars x ≡ true → HasForm class.BlankLabel x → IsBehind (95 ∷ 58 ∷ []) (encodes x)
label_token x ok s =
    let m = s.2 in
    let is : x ≡ 95 ∷ 58 ∷ s.1 = s.4 ∙ ap (λ z. z ++ s.1) (m.4 ∙ ap₂ (λ (u v : List ℕ). u ++ v) (this_char 95 m.0 m.2) (this_char 58 m.1 m.3)) in
    record {
      rest = encodes s.1;
      text = ap encodes is ∙ (low 95 (58 ∷ s.1) (omega arith) ∙ ap (λ z. 95 ∷ z) (low 58 s.1 (omega arith)));
      utf8 = as_text s.1 (back_scalars (95 ∷ 58 ∷ []) s.1 (scalars_at x (95 ∷ 58 ∷ s.1) is ok));
    }

one_of_two : (a b c : ℕ) → is_one_of (a ∷ b ∷ []) c ≡ true → (c ≡ a) ⊎ (c ≡ b)
one_of_two a b c h = elim (or_cases (c == a) (is_one_of (b ∷ []) c) h) [
  | inl e ↦ inl (eqb-true c a e)
  | inr k ↦ (elim (or_cases (c == b) false k) [ inl e ↦ inr (eqb-true c b e) | inr n ↦ absurd (true≢false (sym n)) ])
]

small_mark : (c : ℕ) → (c ≡ 63) ⊎ (c ≡ 36) → c < 128
small_mark c (inl e) = omega arith
small_mark c (inr e) = omega arith

variable_token : (x : List ℕ) → scalars x ≡ true → HasForm class.Var x → IsVariable (encodes x)
variable_token x ok s =
    let c : ℕ = s.2.0 in
    let m : (c ≡ 63) ⊎ (c ≡ 36) = one_of_two 63 36 c s.2.1 in
    let is : x ≡ c ∷ s.1 = s.4 ∙ ap (λ z. z ++ s.1) s.2.2 in
    record { mark = c; is_mark = m; behind = behind_mark c x s.1 (small_mark c m) ok is }

tag_token : (x : List ℕ) → scalars x ≡ true → HasForm class.LangTag x → IsLangTag (encodes x)
unfolding behind_mark
tag_token x ok s =
    let is : x ≡ 64 ∷ s.1 = s.4 ∙ ap (λ z. z ++ s.1) (this_char 64 s.0 s.2) in
    record { behind = behind_mark 64 x s.1 (omega arith) ok is; lawful = lawful_tag s.1 s.3 }

-- ---- strings

abbrev short_char : ℕ → ℕ → Bool
short_char q c = not (is_one_of (q ∷ 92 ∷ 10 ∷ 13 ∷ []) c)

abbrev long_char : ℕ → ℕ → Bool
long_char q c = not (is_one_of (q ∷ 92 ∷ []) c)

abbrev short_unit : ℕ → Form
short_unit q = form.echar ∣ form.uchar is_scalar ∣ one (short_char q)

abbrev long_unit : ℕ → Form
long_unit q = form.echar ∣ form.uchar is_scalar ∣ one (long_char q)

or_first : (a b : Bool) → not (a || b) ≡ true → a ≡ false
or_first true b h = absurd (true≢false (sym h))
or_first false b h = refl

or_second : (a b c : Bool) → not (a || (b || c)) ≡ true → b ≡ false
or_second true b c h = absurd (true≢false (sym h))
or_second false true c h = absurd (true≢false (sym h))
or_second false false c h = refl

unit_stands : (p : ℕ → Bool) → ((c : ℕ) → p c ≡ true → (c == 92) ≡ false) → (x : List ℕ) → Spells (form.echar ∣ form.uchar is_scalar ∣ one p) x → Stands string_escape any x
unit_stands p f x s = elim s [
  | inl a ↦ echar_stands x a
  | inr b ↦ (elim b [ inl d ↦ string_codepoint x d | inr e ↦ string_character p f x e ])
]

short_slash : (q c : ℕ) → short_char q c ≡ true → (c == 92) ≡ false
short_slash q c h = or_second (c == q) (c == 92) (is_one_of (10 ∷ 13 ∷ []) c) h

long_slash : (q c : ℕ) → long_char q c ≡ true → (c == 92) ≡ false
long_slash q c h = or_second (c == q) (c == 92) false h

-- two texts after one another
both_stand : (x y : List ℕ) → Stands string_escape any x → Stands string_escape any y → Stands string_escape any (x ++ y)
both_stand x y a b = pieces_stand string_escape any (Stands string_escape any) (λ z s. s) (x ++ y) (subst (Pieces (Stands string_escape any)) (ap (λ z. x ++ z) (append-nil y)) (more x (y ++ []) a (more y [] b none)))

none_stands : Stands string_escape any []
none_stands = pieces_stand string_escape any (Stands string_escape any) (λ z s. s) [] none

quote_stands : (q : ℕ) → (q == 92) ≡ false → (x : List ℕ) → Spells (char q) x → Stands string_escape any x
quote_stands q n = string_character (λ c. c == q) (λ c h. ap (λ d. d == 92) (eqb-true c q h) ∙ n)

maybe_stands : (r : Form) → ((x : List ℕ) → Spells r x → Stands string_escape any x) → (x : List ℕ) → Spells (maybe r) x → Stands string_escape any x
maybe_stands r f x s = elim s [ inl a ↦ f x a | inr b ↦ subst (Stands string_escape any) (sym b) none_stands ]

then_stands : (r t : Form) → ((x : List ℕ) → Spells r x → Stands string_escape any x) → ((x : List ℕ) → Spells t x → Stands string_escape any x) → (x : List ℕ) → Spells (r ⨾ t) x → Stands string_escape any x
then_stands r t f g x s = subst (Stands string_escape any) (sym s.4) (both_stand s.0 s.1 (f s.0 s.2) (g s.1 s.3))

-- no quotation mark at the beginning
begins_at : (q c : ℕ) (xs ys : List ℕ) → xs ≡ c ∷ ys → (c == q) ≡ false → begins_with q xs ≡ false
begins_at q c xs ys e n = ap (begins_with q) e ∙ n

unit_begins : (q : ℕ) → (92 == q) ≡ false → (x : List ℕ) → Spells (short_unit q) x → (c : ℕ) × (y : List ℕ) × (x ≡ c ∷ y) × ((c == q) ≡ false)
unit_begins q n x s = elim s [
  | inl a ↦ (92, a.1, a.4 ∙ ap (λ z. z ++ a.1) (this_char 92 a.0 a.2), n)
  | inr b ↦ (elim b [
    | inl d ↦ (92, d.1, d.4 ∙ ap (λ z. z ++ d.1) (this_char 92 d.0 d.2), n)
    | inr e ↦ (e.0, [], e.2, or_first (e.0 == q) (is_one_of (92 ∷ 10 ∷ 13 ∷ []) e.0) e.1)
  ])
]

first_not : (q c : ℕ) (y : List ℕ) → q < 128 → (c == q) ≡ false → begins_with q (encodes (c ∷ y)) ≡ false
first_not q c y l n =
    let f : (b : ℕ) × (bs : List ℕ) × (encode c ≡ b ∷ bs) × (not (b == q) ≡ true) = first_byte (λ b. not (b == q)) (other_than q l) c (rw n refl) in
    begins_at q f.0 (encodes (c ∷ y)) (f.1 ++ encodes y) (ap (λ z. z ++ encodes y) f.2) (not-true (f.0 == q) f.3)

short_begins : (q : ℕ) → q < 128 → (92 == q) ≡ false → (x : List ℕ) → Pieces (Spells (short_unit q)) x → begins_with q (encodes x) ≡ false
short_begins q l n _ none = refl
short_begins q l n _ (more u v s ps) =
    let f : (c : ℕ) × (y : List ℕ) × (u ≡ c ∷ y) × ((c == q) ≡ false) = unit_begins q n u s in
    ap (λ z. begins_with q (encodes (z ++ v))) f.2 ∙ first_not q f.0 (f.1 ++ v) l f.3

-- the two marks, and what holds of them
record IsMark (q : ℕ) : Type 0 where
  small : q < 128
  slash : (q == 92) ≡ false
  other : (92 == q) ≡ false
  mark : (q ≡ 34) ⊎ (q ≡ 39)

double : IsMark 34
double = record { small = omega arith; slash = refl; other = refl; mark = inl refl }

single : IsMark 39
single = record { small = omega arith; slash = refl; other = refl; mark = inr refl }

short_token : (q : ℕ) → IsMark q → (x : List ℕ) → scalars x ≡ true → Spells (short_string q) x → IsString (encodes x)
short_token q m x ok s =
    let b : (body : List ℕ) × Spells (many (short_unit q)) body × (x ≡ q ∷ (body ++ q ∷ [])) = marked q q (many (short_unit q)) x s in
    let h : scalars (b.0 ++ q ∷ []) ≡ true = back_scalars (q ∷ []) (b.0 ++ q ∷ []) (scalars_at x (q ∷ (b.0 ++ q ∷ [])) b.2 ok) in
    let t : Stands string_escape any b.0 = pieces_stand string_escape any (Spells (short_unit q)) (unit_stands (short_char q) (short_slash q)) b.0 b.1 in
    let text : encodes x ≡ q ∷ (encodes b.0 ++ q ∷ []) = ap encodes b.2 ∙ (low q (b.0 ++ q ∷ []) m.small ∙ ap (λ z. q ∷ z) (encodes-append b.0 (q ∷ []) ∙ ap (λ z. encodes b.0 ++ z) (low q [] m.small))) in record {
      mark = q;
      is_mark = m.mark;
      written = encodes b.0;
      text = inl (text, short_begins q m.small m.other b.0 b.1);
      utf8 = as_text b.0 (front_scalars b.0 (q ∷ []) h);
      escapes = escapes_stand string_escape b.0 t.characters t.stand;
    }

long_body : (q : ℕ) → IsMark q → (x : List ℕ) → Spells (many (maybe (char q ⨾ maybe (char q)) ⨾ long_unit q)) x → Stands string_escape any x
long_body q m = pieces_stand string_escape any (Spells (maybe (char q ⨾ maybe (char q)) ⨾ long_unit q))
    (then_stands (maybe (char q ⨾ maybe (char q))) (long_unit q)
    (maybe_stands (char q ⨾ maybe (char q)) (then_stands (char q) (maybe (char q)) (quote_stands q m.slash) (maybe_stands (char q) (quote_stands q m.slash))))
    (unit_stands (long_char q) (long_slash q)))

low_three : (q : ℕ) (x : List ℕ) → q < 128 → encodes (q ∷ q ∷ q ∷ x) ≡ q ∷ q ∷ q ∷ encodes x
low_three q x l = low q (q ∷ q ∷ x) l ∙ (ap (λ z. q ∷ z) (low q (q ∷ x) l) ∙ ap (λ z. q ∷ q ∷ z) (low q x l))

long_token : (q : ℕ) → IsMark q → (x : List ℕ) → scalars x ≡ true → Spells (long_string q) x → IsString (encodes x)
long_token q m x ok s =
    let a = s.3 in let b = a.3 in let c = b.3 in let d = c.3 in let e = d.3 in
    let body : List ℕ = c.0 in
    let last : c.1 ≡ q ∷ q ∷ q ∷ [] =
    d.4 ∙ ap₂ (λ (u v : List ℕ). u ++ v) (this_char q d.0 d.2) (e.4 ∙ ap₂ (λ (u v : List ℕ). u ++ v) (this_char q e.0 e.2) (this_char q e.1 e.3)) in
    let whole : x ≡ q ∷ q ∷ q ∷ (body ++ q ∷ q ∷ q ∷ []) =
    s.4 ∙ ap₂ (λ (u v : List ℕ). u ++ v) (this_char q s.0 s.2) (a.4 ∙ ap₂ (λ (u v : List ℕ). u ++ v) (this_char q a.0 a.2)
    (b.4 ∙ ap₂ (λ (u v : List ℕ). u ++ v) (this_char q b.0 b.2) (c.4 ∙ ap (λ z. body ++ z) last))) in
    let h : scalars (body ++ q ∷ q ∷ q ∷ []) ≡ true = back_scalars (q ∷ q ∷ q ∷ []) (body ++ q ∷ q ∷ q ∷ []) (scalars_at x (q ∷ q ∷ q ∷ (body ++ q ∷ q ∷ q ∷ [])) whole ok) in
    let t : Stands string_escape any body = long_body q m body c.2 in
    let text : encodes x ≡ q ∷ q ∷ q ∷ (encodes body ++ q ∷ q ∷ q ∷ []) =
    ap encodes whole ∙ (low_three q (body ++ q ∷ q ∷ q ∷ []) m.small ∙ ap (λ z. q ∷ q ∷ q ∷ z) (encodes-append body (q ∷ q ∷ q ∷ []) ∙ ap (λ z. encodes body ++ z) (low_three q [] m.small))) in record {
      mark = q;
      is_mark = m.mark;
      written = encodes body;
      text = inr text;
      utf8 = as_text body (front_scalars body (q ∷ q ∷ q ∷ []) h);
      escapes = escapes_stand string_escape body t.characters t.stand;
    }

string_token : (x : List ℕ) → scalars x ≡ true → HasForm class.String x → IsString (encodes x)
string_token x ok s = elim s [
  | inl a ↦ short_token 34 double x ok a
  | inr b ↦ (elim b [
    | inl c ↦ short_token 39 single x ok c
    | inr d ↦ (elim d [ inl e ↦ long_token 34 double x ok e | inr f ↦ long_token 39 single x ok f ])
  ])
]

-- ---- the whole

by_form : (k : Class) (x : List ℕ) → scalars x ≡ true → HasForm k x → IsMadeOf k (encodes x)
by_form class.IriRef x ok s = iri_token x ok s
by_form class.PnameNs x ok s = prefix_token x ok s
by_form class.PnameLn x ok s = name_token x ok s
by_form class.BlankLabel x ok s = label_token x ok s
by_form class.Var x ok s = variable_token x ok s
by_form class.String x ok s = string_token x ok s
by_form class.LangTag x ok s = tag_token x ok s
by_form class.Integer x ok s = tt
by_form class.Signed x ok s = tt
by_form class.Decimal x ok s = tt
by_form class.Double x ok s = tt
by_form class.Word x ok s = tt
by_form class.Mark x ok s = tt

pub made_of : (k : Class) (x : List ℕ) → scalars x ≡ true → IsToken k x → IsMadeOf k (encodes x)
made_of k x ok t = by_form k x ok (spelled k x t)
