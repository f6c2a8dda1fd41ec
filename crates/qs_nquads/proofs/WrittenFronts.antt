-- The longest front of a written token and what follows it is the token.
use Rattle.std.proofs.Common.{◌≡◌, ℕ, zero, suc, ◌+◌, ◌%◌, ◌^◌, ◌<◌, Bool, true, false, ◌&&◌, ◌==◌, List, [], ◌∷◌, ◌++◌, length, Option, Some, None, refl, sym, ap, ◌∙◌, subst, inl, inr, arith, append_assoc, length-append, true≢false, eqb-true}
use Rattle.std.specs.Prelude.{if◌then◌else◌, decimal, not}
use Rattle.std.specs.List.{list_all}
use Rattle.std.specs.Char.{len_utf8, is_ascii_alphabetic, is_ascii_alphanumeric}
use Rattle.std.proofs.lemmas.Bool.{and_parts, cases_eq}
use Rattle.std.proofs.lemmas.Str.{length-encode}
use Rattle.std.proofs.lemmas.Fmt.{decimal_by_steps}
use lib.Utf8.{encode, encodes}
use Rattle.qs_lex_regular.specs.Character.{is_iri_char, is_escaped, is_letter, is_letter_or_digit, is_digit, is_pn_chars, is_pn_chars_u, is_base, is_mark_in_name}
use Rattle.qs_lex_regular.specs.inner.Best.{best, longer, here, advance}
use Rattle.qs_terms.specs.Tag.{is_tag, is_tag_rest, is_subtag_char}
use Rattle.qs_nquads.specs.Table.{table, is_string_char, is_label_start, is_label_char}
use Rattle.qs_nquads.specs.inner.State.{Left, left}
use Rattle.qs_nquads.specs.declared.class.Class.{Class}
use Rattle.qs_nquads.specs.declared.class.Class.TheVariants as class
use Rattle.qs_nquads.specs.declared.state.State.{State}
use Rattle.qs_nquads.specs.declared.state.State.TheVariants as state
use Rattle.qs_nquads.proofs.Apart as apart
use Rattle.qs_nquads.specs.Written.{escaped_byte, label}
use Rattle.qs_nquads.specs.inner.Written.{escaped}
use Rattle.qs_nquads.proofs.Escaped.{escape_cases}

-- of the characters x and what follows, the longest front is x, of the class k
abbrev pub Takes : Left → List ℕ → List ℕ → Class → Type 0
Takes fs x rest k = best fs (x ++ rest) ≡ Some (k, length (encodes x))

longer_by : (c : ℕ) (cs : List ℕ) (fs next : Left) (k : Class) (n : ℕ) → advance fs c ≡ next → best next cs ≡ Some (k, n) → best fs (c ∷ cs) ≡ Some (k, len_utf8 c + n)
longer_by c cs fs next k n a b = ap (λ (z : Left). longer c (best z cs) (here fs)) a ∙ ap (λ (z : Option (Class × ℕ)). longer c z (here fs)) b

pub more : (fs next : Left) (c : ℕ) (x rest : List ℕ) (k : Class) → advance fs c ≡ next → Takes next x rest k → Takes fs (c ∷ x) rest k
more fs next c x rest k a t =
    longer_by c (x ++ rest) fs next k (length (encodes x)) a t
    ∙ ap (λ (n : ℕ). let p : Class × ℕ = (k, n) in Some p) (sym (length-append (encode c) (encodes x) ∙ ap (λ n. n + length (encodes x)) (length-encode c)))

nowhere : (cs : List ℕ) → best {K = Class} [] cs ≡ None
nowhere [] = refl
nowhere (c ∷ cs) = ap (λ (z : Option (Class × ℕ)). longer c z None) (nowhere cs)

-- a front that no character makes longer
last : (fs : Left) (k : Class) (rest : List ℕ) → here fs ≡ Some k → ((c : ℕ) → advance fs c ≡ []) → Takes fs [] rest k
last fs k [] h a = ap (λ (o : Option Class). Rattle.std.specs.Option.option_map (λ (j : Class). let t : Class × ℕ = (j, 0) in t) o) h
last fs k (c ∷ cs) h a = ap (λ (z : Left). longer c (best z cs) (here fs)) (a c) ∙ (ap (λ (z : Option (Class × ℕ)). longer c z (here fs)) (nowhere cs) ∙ ap (λ (z : Option Class). longer {K = Class} c None z) h)

-- a front that the next character doesn't make longer
last_before : (fs : Left) (k : Class) (c : ℕ) (cs : List ℕ) → here fs ≡ Some k → advance fs c ≡ [] → Takes fs [] (c ∷ cs) k
last_before fs k c cs h a = ap (λ (z : Left). longer c (best z cs) (here fs)) a ∙ (ap (λ (z : Option (Class × ℕ)). longer c z (here fs)) (nowhere cs) ∙ ap (λ (z : Option Class). longer {K = Class} c None z) h)

-- ---- IRIs

iri_stays : (c : ℕ) → is_iri_char c ≡ true → advance (left state.Iri) c ≡ left state.Iri
iri_stays c h =
    let a : (c == 62) ≡ false = apart.iri_greater c h in let b : (c == 92) ≡ false = apart.iri_backslash c h in rw (h, a, b) refl

iri_ends : advance (left state.Iri) 62 ≡ left state.IriDone
iri_ends = rw apart.greater_iri refl

in_iri : (cs rest : List ℕ) → list_all is_iri_char cs ≡ true → Takes (left state.Iri) (cs ++ 62 ∷ []) rest class.Iri
in_iri [] rest h = more (left state.Iri) (left state.IriDone) 62 [] rest class.Iri iri_ends (last (left state.IriDone) class.Iri rest refl (λ c. refl))
in_iri (c ∷ cs) rest h = let p = and_parts _ _ h in more (left state.Iri) (left state.Iri) c (cs ++ 62 ∷ []) rest class.Iri (iri_stays c p.0) (in_iri cs rest p.1)

iri_begins : advance table 60 ≡ left state.Iri
iri_begins = refl

pub iri_front : (cs rest : List ℕ) → list_all is_iri_char cs ≡ true → Takes table (60 ∷ (cs ++ 62 ∷ [])) rest class.Iri
iri_front cs rest h = more table (left state.Iri) 60 (cs ++ 62 ∷ []) rest class.Iri iri_begins (in_iri cs rest h)

-- ---- strings

string_stays : (c : ℕ) → is_string_char c ≡ true → advance (left state.String) c ≡ left state.String
string_stays c h =
    let a : (c == 34) ≡ false = apart.string_quote c h in let b : (c == 92) ≡ false = apart.string_backslash c h in rw (h, a, b) refl

string_ends : advance (left state.String) 34 ≡ left state.StringDone
string_ends = rw apart.quote_string refl

string_slash : advance (left state.String) 92 ≡ left state.StringBackslash
string_slash = rw apart.backslash_string refl

escape_ends : (c : ℕ) → is_escaped c ≡ true → advance (left state.StringBackslash) c ≡ left state.String
escape_ends c h = let a : (c == 117) ≡ false = apart.escaped_u c h in let b : (c == 85) ≡ false = apart.escaped_long_u c h in rw (h, a, b) refl

abbrev Passes : ℕ → List ℕ → Type 0
Passes c e = (x rest : List ℕ) → Takes (left state.String) x rest class.String → Takes (left state.String) (e ++ x) rest class.String

escape_passes : (c : ℕ) → is_escaped c ≡ true → Passes c (92 ∷ c ∷ [])
escape_passes c h x rest t =
    more (left state.String) (left state.StringBackslash) 92 (c ∷ x) rest class.String string_slash
    (more (left state.StringBackslash) (left state.String) c x rest class.String (escape_ends c h) t)

plain_string : (c : ℕ) → (c == 34) ≡ false → (c == 92) ≡ false → (c == 10) ≡ false → (c == 13) ≡ false → is_string_char c ≡ true
unfolding is_string_char
plain_string c a b d e = rw (a, b, d, e) refl

one_passes : (c : ℕ) → Passes c (escaped_byte c)
unfolding is_escaped
one_passes = escape_cases Passes (escape_passes 34 refl) (escape_passes 92 refl) (escape_passes 110 refl) (escape_passes 114 refl)
    (λ c a b d e x rest t. more (left state.String) (left state.String) c x rest class.String (string_stays c (plain_string c a b d e)) t)

in_string : (cs rest : List ℕ) → Takes (left state.String) (escaped cs ++ 34 ∷ []) rest class.String
in_string [] rest = more (left state.String) (left state.StringDone) 34 [] rest class.String string_ends (last (left state.StringDone) class.String rest refl (λ c. refl))
in_string (c ∷ cs) rest =
    subst (λ z. Takes (left state.String) z rest class.String) (sym (append_assoc (escaped_byte c) (escaped cs) (34 ∷ [])))
    (one_passes c (escaped cs ++ 34 ∷ []) rest (in_string cs rest))

string_begins : advance table 34 ≡ left state.String
string_begins = refl

pub string_front : (cs rest : List ℕ) → Takes table (34 ∷ (escaped cs ++ 34 ∷ [])) rest class.String
string_front cs rest = more table (left state.String) 34 (escaped cs ++ 34 ∷ []) rest class.String string_begins (in_string cs rest)

-- ---- `^^`, `.` and LF

pub carets_front : (rest : List ℕ) → Takes table (94 ∷ 94 ∷ []) rest class.Carets
carets_front rest = more table (left state.Caret) 94 (94 ∷ []) rest class.Carets refl (more (left state.Caret) (left state.Carets) 94 [] rest class.Carets refl (last (left state.Carets) class.Carets rest refl (λ c. refl)))

pub dot_front : (rest : List ℕ) → Takes table (46 ∷ []) rest class.Dot
dot_front rest = more table (left state.Dot) 46 [] rest class.Dot refl (last (left state.Dot) class.Dot rest refl (λ c. refl))

pub end_front : (rest : List ℕ) → Takes table (10 ∷ []) rest class.LineEnd
end_front rest = more table (left state.LineEnd) 10 [] rest class.LineEnd refl (last (left state.LineEnd) class.LineEnd rest refl (λ c. refl))

-- ---- labels, before a space

label_stays : (c : ℕ) → is_label_char c ≡ true → advance (left state.Label) c ≡ left state.Label
label_stays c h = rw h refl

space_no_label : is_label_char 32 ≡ false
unfolding is_label_char is_pn_chars is_pn_chars_u is_base is_digit is_mark_in_name
space_no_label = refl

label_ends : advance (left state.Label) 32 ≡ []
label_ends = rw space_no_label refl

b_begins : is_label_start 98 ≡ true
unfolding is_label_start is_pn_chars_u is_base
b_begins = refl

label_begins : advance (left state.UnderscoreColon) 98 ≡ left state.Label
label_begins = rw b_begins refl

in_label : (cs rest : List ℕ) → list_all is_label_char cs ≡ true → Takes (left state.Label) cs (32 ∷ rest) class.Label
in_label [] rest h = last_before (left state.Label) class.Label 32 rest refl label_ends
in_label (c ∷ cs) rest h = let p = and_parts _ _ h in more (left state.Label) (left state.Label) c cs (32 ∷ rest) class.Label (label_stays c p.0) (in_label cs rest p.1)

-- a test of the numbers below n
abbrev pub all_below : (ℕ → Bool) → ℕ → Bool
all_below p zero = true
all_below p (suc n) = p n && all_below p n

pub below : (p : ℕ → Bool) (n : ℕ) → all_below p n ≡ true → (x : ℕ) → x < n → p x ≡ true
below p zero e x h = absurd (omega arith)
below p (suc n) e x h =
    let q : (p n ≡ true) × (all_below p n ≡ true) = and_parts _ _ e in
    elim (cases_eq x n) [ inl same ↦ ap p same ∙ q.0 | inr other ↦ below p n q.1 x (omega arith) ]

digits_all : all_below (λ d. is_label_char (48 + d)) 10 ≡ true
unfolding is_label_char is_pn_chars is_pn_chars_u is_base is_digit is_mark_in_name
digits_all = refl

digit_in_label : (d : ℕ) → d < 10 → is_label_char (48 + d) ≡ true
digit_in_label d h = below (λ d. is_label_char (48 + d)) 10 digits_all d h

pub all-append : (p : ℕ → Bool) (xs ys : List ℕ) → list_all p xs ≡ true → list_all p ys ≡ true → list_all p (xs ++ ys) ≡ true
all-append p [] ys a b = b
all-append p (x ∷ xs) ys a b = let h : (p x ≡ true) × (list_all p xs ≡ true) = and_parts _ _ a in rw h.0 (all-append p xs ys h.1 b)

pub digits_in_label : (n : ℕ) → n < 2 ^ 64 → list_all is_label_char (decimal n) ≡ true
digits_in_label = decimal_by_steps (λ n ds. list_all is_label_char ds ≡ true)
    (λ n h. rw (digit_in_label n h) refl)
    (λ n ds h p. all-append is_label_char ds _ p (rw (digit_in_label (n % 10) (omega arith)) refl))

pub label_front : (n : ℕ) (rest : List ℕ) → n < 2 ^ 64 → Takes table (95 ∷ 58 ∷ label n) (32 ∷ rest) class.Label
label_front n rest h =
    more table (left state.Underscore) 95 (58 ∷ label n) (32 ∷ rest) class.Label refl
    (more (left state.Underscore) (left state.UnderscoreColon) 58 (label n) (32 ∷ rest) class.Label refl
    (more (left state.UnderscoreColon) (left state.Label) 98 (decimal n) (32 ∷ rest) class.Label label_begins (in_label (decimal n) rest (digits_in_label n h))))

-- ---- tags, before a space

-- where the scanner is within a tag: in its first part or a later one, of which nothing stands yet or something does
abbrev place : Bool → Bool → State
place true true = state.At
place true false = state.Tag
place false true = state.TagDash
place false false = state.TagPart

letter_stays : (empty : Bool) (c : ℕ) → is_ascii_alphabetic c ≡ true → advance (left (place true empty)) c ≡ left state.Tag
unfolding is_letter
letter_stays true c h = rw h refl
letter_stays false c h = let a : (c == 45) ≡ false = apart.letter_dash c h in rw (h, a) refl

part_stays : (empty : Bool) (c : ℕ) → is_ascii_alphanumeric c ≡ true → advance (left (place false empty)) c ≡ left state.TagPart
unfolding is_letter_or_digit
part_stays true c h = rw h refl
part_stays false c h = let a : (c == 45) ≡ false = apart.letter_or_digit_dash c h in rw (h, a) refl

char_stays : (first empty : Bool) (c : ℕ) → is_subtag_char first c ≡ true → advance (left (place first empty)) c ≡ left (place first false)
char_stays true empty c h = letter_stays empty c h
char_stays false empty c h = part_stays empty c h

dash_ends : (first : Bool) → advance (left (place first false)) 45 ≡ left state.TagDash
unfolding is_letter is_letter_or_digit
dash_ends true = refl
dash_ends false = refl

space_ends : (first : Bool) → advance (left (place first false)) 32 ≡ []
unfolding is_letter is_letter_or_digit
space_ends true = refl
space_ends false = refl

tag_here : (first : Bool) → here (left (place first false)) ≡ Some class.Tag
tag_here true = refl
tag_here false = refl

tag_dash : (first empty : Bool) (t rest : List ℕ) → (is_tag_rest false true t ≡ true → Takes (left state.TagDash) t (32 ∷ rest) class.Tag)
    → (not empty && is_tag_rest false true t) ≡ true → Takes (left (place first empty)) (45 ∷ t) (32 ∷ rest) class.Tag
tag_dash first true t rest next h = absurd (true≢false (sym h))
tag_dash first false t rest next h = more (left (place first false)) (left state.TagDash) 45 t (32 ∷ rest) class.Tag (dash_ends first) (next h)

tag_char : (first empty b : Bool) (c : ℕ) (t rest : List ℕ) → ((f e : Bool) → is_tag_rest f e t ≡ true → Takes (left (place f e)) t (32 ∷ rest) class.Tag) → (c == 45) ≡ b
    → (if b then (not empty && is_tag_rest false true t) else (is_subtag_char first c && is_tag_rest first false t)) ≡ true → Takes (left (place first empty)) (c ∷ t) (32 ∷ rest) class.Tag
tag_char first empty true c t rest next e h = subst (λ z. Takes (left (place first empty)) (z ∷ t) (32 ∷ rest) class.Tag) (sym (eqb-true c 45 e)) (tag_dash first empty t rest (next false true) h)
tag_char first empty false c t rest next e h =
    let p : (is_subtag_char first c ≡ true) × (is_tag_rest first false t ≡ true) = and_parts _ _ h in
    more (left (place first empty)) (left (place first false)) c t (32 ∷ rest) class.Tag (char_stays first empty c p.0) (next first false p.1)

in_tag : (t : List ℕ) (rest : List ℕ) (first empty : Bool) → is_tag_rest first empty t ≡ true → Takes (left (place first empty)) t (32 ∷ rest) class.Tag
in_tag [] rest first true h = absurd (true≢false (sym h))
in_tag [] rest first false h = last_before (left (place first false)) class.Tag 32 rest (tag_here first) (space_ends first)
in_tag (c ∷ t) rest first empty h = tag_char first empty (c == 45) c t rest (in_tag t rest) refl h

pub tag_front : (t rest : List ℕ) → is_tag t ≡ true → Takes table (64 ∷ t) (32 ∷ rest) class.Tag
tag_front t rest h = more table (left state.At) 64 t (32 ∷ rest) class.Tag refl (in_tag t rest true true h)
