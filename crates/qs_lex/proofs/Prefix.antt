-- Where no prefix begins, a letter begins a word and nothing else.
use Rattle.std.proofs.Common.{◌≡◌, ◌⊎◌, ◌≤◌, ◌<◌, ℕ, Bool, true, false, cond, ◌&&◌, ◌==◌, not, List, [], ◌∷◌, ◌++◌, Option, Some, None, length, refl, sym, ap, ◌∙◌, subst, inl, inr, true≢false, encode_utf8, encode_utf8_all, arith, length-append, append_assoc, eqb-true, ltb, ltb-true, ltb-false, IsUtf8, chars}
use Rattle.std.specs.Char.{len_utf8}
use Rattle.std.proofs.lemmas.Str.{length-encode, len_utf8_bounds, chars_past_char, encodes-chars, IsUtf8-past_char, chars-nil}
use Rattle.std.proofs.lemmas.List.{nil_from_length}
use Rattle.qs_lex_regular.specs.Form.{one, many, ◌⨾◌, char, maybe}
use Rattle.qs_lex_regular.specs.Character.{is_pn_chars, is_letter}
use Rattle.qs_lex.specs.Table.{is_word_char, local_first, table}
use Rattle.qs_lex.specs.inner.Table.{Left}
use Rattle.qs_lex_regular.specs.inner.Best.{advance, here, longer, best}
use Rattle.qs_lex_regular.specs.inner.Scan.{later}
use Rattle.qs_lex.specs.inner.NameState.{named, inner, local_rest}
use Rattle.qs_lex.specs.inner.Prefix.{names, IsBarren, IsNoPrefix, plain}
use Rattle.qs_lex.specs.declared.token.Class.{Class}
use Rattle.qs_lex.specs.declared.token.Class.TheVariants as class
use Rattle.qs_lex.proofs.Apart.{chars_colon, word_colon, word_chars}
use Rattle.qs_lex_regular.proofs.Scan.{best-dead}
use Rattle.qs_lex.proofs.Begin.{at_first, scan_first}
use Rattle.qs_lex.proofs.Start.{begun_word}
use Rattle.qs_lex.specs.inner.Start.{begun}
use Rattle.qs_lex.specs.Lexes.{skip, is_blank, is_line_end}

abbrev pub words : Left
words = (class.Word, many (one is_word_char)) ∷ []

abbrev pub words_and_prefixes : Left
words_and_prefixes = (class.PnameNs, maybe inner ⨾ char 58) ∷ (class.PnameLn, (maybe inner ⨾ char 58) ⨾ local_first ⨾ maybe local_rest) ∷ (class.Word, many (one is_word_char)) ∷ []

-- ---- one character on

prefix_chars : (c : ℕ) → is_pn_chars c ≡ true → advance (named (maybe inner)) c ≡ named (maybe inner)
prefix_chars c h = let d : (c == 58) ≡ false = chars_colon c h in simp (h, d)

prefix_dot : (c : ℕ) → is_pn_chars c ≡ false → (c == 46) ≡ true → (c == 58) ≡ false → advance (named (maybe inner)) c ≡ named inner
prefix_dot c h d e = simp (h, d, e)

prefix_dead : (c : ℕ) → is_pn_chars c ≡ false → (c == 46) ≡ false → (c == 58) ≡ false → advance (named (maybe inner)) c ≡ []
prefix_dead c h d e = simp (h, d, e)

inner_chars : (c : ℕ) → is_pn_chars c ≡ true → advance (named inner) c ≡ named (maybe inner)
inner_chars c h = simp h

inner_dot : (c : ℕ) → is_pn_chars c ≡ false → (c == 46) ≡ true → advance (named inner) c ≡ named inner
inner_dot c h d = simp (h, d)

inner_dead : (c : ℕ) → is_pn_chars c ≡ false → (c == 46) ≡ false → advance (named inner) c ≡ []
inner_dead c h d = simp (h, d)

word_word : (c : ℕ) → is_word_char c ≡ true → advance words_and_prefixes c ≡ words_and_prefixes
word_word c h = let g : is_pn_chars c ≡ true = word_chars c h in let d : (c == 58) ≡ false = word_colon c h in simp (h, g, d)

word_prefix : (c : ℕ) → is_word_char c ≡ false → advance words_and_prefixes c ≡ advance (named (maybe inner)) c
word_prefix c h = simp h

only_word : (c : ℕ) → is_word_char c ≡ true → advance words c ≡ words
only_word c h = simp h

only_dead : (c : ℕ) → is_word_char c ≡ false → advance words c ≡ []
only_dead c h = simp h

-- ---- no prefix

prefixes : Bool → Left
prefixes true = named (maybe inner)
prefixes false = named inner

dot_colon : (c : ℕ) → (c == 46) ≡ true → (c == 58) ≡ false
dot_colon c h = let e : c ≡ 46 = eqb-true c 46 h in rw e refl

best-step : (fs gs : Left) (c : ℕ) (cs : List ℕ) → advance fs c ≡ gs → best fs (c ∷ cs) ≡ longer c (best gs cs) (here fs)
best-step fs gs c cs e = ap (λ z. longer c (best z cs) (here fs)) e

not-both : (b : Bool) → (b && true) ≡ false → b ≡ false
not-both true h = h
not-both false h = refl

prefix_none-by : (last : Bool) (c : ℕ) (cs : List ℕ) (a b : Bool) → is_pn_chars c ≡ a → (c == 46) ≡ b → names last (c ∷ cs) ≡ false
    → ((l : Bool) → names l cs ≡ false → best (prefixes l) cs ≡ None) → best (prefixes last) (c ∷ cs) ≡ None
unfolding prefixes
prefix_none-by true c cs true b ha hb h rec =
    let on : names true cs ≡ false = rw ha at h in
    best-step (named (maybe inner)) (named (maybe inner)) c cs (prefix_chars c ha) ∙ ap (λ z. longer c z None) (rec true on)
prefix_none-by false c cs true b ha hb h rec =
    let on : names true cs ≡ false = rw ha at h in
    best-step (named inner) (named (maybe inner)) c cs (inner_chars c ha) ∙ ap (λ z. longer c z None) (rec true on)
prefix_none-by true c cs false true ha hb h rec =
    let on : names false cs ≡ false = rw (ha, hb) at h in
    best-step (named (maybe inner)) (named inner) c cs (prefix_dot c ha hb (dot_colon c hb)) ∙ ap (λ z. longer c z None) (rec false on)
prefix_none-by false c cs false true ha hb h rec =
    let on : names false cs ≡ false = rw (ha, hb) at h in
    best-step (named inner) (named inner) c cs (inner_dot c ha hb) ∙ ap (λ z. longer c z None) (rec false on)
prefix_none-by true c cs false false ha hb h rec =
    let on : (c == 58 && true) ≡ false = rw (ha, hb) at h in
    best-step (named (maybe inner)) [] c cs (prefix_dead c ha hb (not-both (c == 58) on)) ∙ ap (λ z. longer c z None) (best-dead Class cs)
prefix_none-by false c cs false false ha hb h rec =
    best-step (named inner) [] c cs (inner_dead c ha hb) ∙ ap (λ z. longer c z None) (best-dead Class cs)

prefix_none : (last : Bool) (cs : List ℕ) → names last cs ≡ false → best (prefixes last) cs ≡ None
unfolding prefixes
prefix_none true [] h = refl
prefix_none false [] h = refl
prefix_none last (c ∷ cs) h = prefix_none-by last c cs (is_pn_chars c) (c == 46) refl refl h (λ l k. prefix_none l cs k)

none_behind : (c : ℕ) (o : Option (Class × ℕ)) → longer c o None ≡ None → o ≡ None
none_behind c None e = refl
none_behind c (Some t) e = cc

word_same-by : (c : ℕ) (cs : List ℕ) (a : Bool) → is_word_char c ≡ a → names true (c ∷ cs) ≡ false
    → (names true cs ≡ false → best words_and_prefixes cs ≡ best words cs) → best words_and_prefixes (c ∷ cs) ≡ best words (c ∷ cs)
unfolding prefixes
word_same-by c cs true ha h rec =
    let g : is_pn_chars c ≡ true = word_chars c ha in
    let on : names true cs ≡ false = rw g at h in
    best-step words_and_prefixes words_and_prefixes c cs (word_word c ha) ∙ (ap (λ z. longer c z (Some class.Word)) (rec on) ∙ sym (best-step words words c cs (only_word c ha)))
word_same-by c cs false ha h rec =
    let none : best (advance (named (maybe inner)) c) cs ≡ None = none_behind c (best (advance (named (maybe inner)) c) cs) (prefix_none true (c ∷ cs) h) in
    best-step words_and_prefixes (advance (named (maybe inner)) c) c cs (word_prefix c ha)
    ∙ (ap (λ z. longer c z (Some class.Word)) (none ∙ sym (best-dead Class cs)) ∙ sym (best-step words [] c cs (only_dead c ha)))

pub word_same : (cs : List ℕ) → names true cs ≡ false → best words_and_prefixes cs ≡ best words cs
word_same [] h = refl
word_same (c ∷ cs) h = word_same-by c cs (is_word_char c) refl h (λ k. word_same cs k)

-- ---- the places of a run

bytes_more : (c : ℕ) (v : List ℕ) → length (encode_utf8_all v) < length (encode_utf8_all (c ∷ v))
bytes_more c v = let b : (1 ≤ len_utf8 c) × (len_utf8 c ≤ 4) = len_utf8_bounds c in omega (arith, length-append (encode_utf8 c) (encode_utf8_all v), length-encode c, b.0)

bytes_suffix : (u v : List ℕ) → length (encode_utf8_all v) ≤ length (encode_utf8_all (u ++ v))
bytes_suffix [] v = omega arith
bytes_suffix (c ∷ u) v = omega (arith, bytes_suffix u v, bytes_more c (u ++ v))

same_place : (done u : List ℕ) (d c : ℕ) (cs v : List ℕ) → done ++ d ∷ cs ≡ u ++ c ∷ v → length (encode_utf8_all cs) < length (encode_utf8_all (c ∷ v))
    → length (encode_utf8_all (c ∷ v)) ≤ length (encode_utf8_all (d ∷ cs)) → (c ≡ d) × (v ≡ cs)
same_place [] [] d c cs v e l m = (cc, cc)
same_place [] (x ∷ u) d c cs v e l m =
    let t : cs ≡ u ++ c ∷ v = cc in
    let k : length (encode_utf8_all cs) ≡ length (encode_utf8_all (u ++ c ∷ v)) = ap (λ z. length (encode_utf8_all z)) t in
    absurd (omega (arith, bytes_suffix u (c ∷ v), k))
same_place (x ∷ done) [] d c cs v e l m =
    let t : done ++ d ∷ cs ≡ v = cc in
    let k : length (encode_utf8_all (done ++ d ∷ cs)) ≡ length (encode_utf8_all v) = ap (λ z. length (encode_utf8_all z)) t in
    absurd (omega (arith, bytes_suffix done (d ∷ cs), bytes_more c v, k))
same_place (x ∷ done) (y ∷ u) d c cs v e l m = let t : done ++ d ∷ cs ≡ u ++ c ∷ v = cc in same_place done u d c cs v t l m

-- after each letter so far a prefix goes on as it does here
abbrev pub SameBehind : List ℕ → ℕ → Bool → Type 0
SameBehind cs left answer = (u v : List ℕ) (c : ℕ) → cs ≡ u ++ c ∷ v → left < length (encode_utf8_all (c ∷ v)) → is_letter c ≡ true → names true v ≡ answer

pub barren_from : (cs : List ℕ) (left : ℕ) (answer : Bool) → SameBehind cs left answer → answer ≡ false → IsBarren cs left
barren_from cs left answer s e u v c t l h = s u v c t l h ∙ e

pub same_init : (cs : List ℕ) (left : ℕ) (answer : Bool) → length (encode_utf8_all cs) ≤ left → SameBehind cs left answer
same_init cs left answer le u v c t l h =
    let k : length (encode_utf8_all cs) ≡ length (encode_utf8_all (u ++ c ∷ v)) = ap (λ z. length (encode_utf8_all z)) t in
    absurd (omega (arith, bytes_suffix u (c ∷ v), k))

same_step-by : (cs done rest : List ℕ) (d : ℕ) (left : ℕ) (last next : Bool) → cs ≡ done ++ d ∷ rest → left ≡ length (encode_utf8_all (d ∷ rest)) → SameBehind cs left (names last (d ∷ rest))
    → names last (d ∷ rest) ≡ names next rest → (is_letter d ≡ true → next ≡ true)
    → (u v : List ℕ) (c : ℕ) → cs ≡ u ++ c ∷ v → length (encode_utf8_all rest) < length (encode_utf8_all (c ∷ v)) → is_letter c ≡ true
    → (left < length (encode_utf8_all (c ∷ v))) ⊎ (length (encode_utf8_all (c ∷ v)) ≤ left) → names true v ≡ names next rest
same_step-by cs done rest d left last next f n s e k u v c t l h w =
    elim w [
      | inl a ↦ (s u v c t a h ∙ e)
      | inr a ↦ (let p : (c ≡ d) × (v ≡ rest) = same_place done u d c rest v (sym f ∙ t) l (omega arith) in
          let on : next ≡ true = k (subst (λ z. is_letter z ≡ true) p.0 h) in
          ap (λ z. names true z) p.1 ∙ ap (λ b. names b rest) (sym on))
    ]

lt_or_le : (a b : ℕ) → (a < b) ⊎ (b ≤ a)
lt_or_le a b = dec (ltb a b) refl where
  dec : (t : Bool) → ltb a b ≡ t → (a < b) ⊎ (b ≤ a)
  dec true e = inl (ltb-true a b e)
  dec false e = inr (ltb-false a b e)

pub same_step : (cs done rest : List ℕ) (d : ℕ) (left : ℕ) (last next : Bool) → cs ≡ done ++ d ∷ rest → left ≡ length (encode_utf8_all (d ∷ rest)) → SameBehind cs left (names last (d ∷ rest))
    → names last (d ∷ rest) ≡ names next rest → (is_letter d ≡ true → next ≡ true) → SameBehind cs (length (encode_utf8_all rest)) (names next rest)
same_step cs done rest d left last next f n s e k u v c t l h =
    same_step-by cs done rest d left last next f n s e k u v c t l h (lt_or_le left (length (encode_utf8_all (c ∷ v))))

-- what is barren stays so after a front
pub barren_behind : (cs x more : List ℕ) (left : ℕ) → cs ≡ x ++ more → IsBarren cs left → IsBarren more left
barren_behind cs x more left e b u v c t l h = b (x ++ u) v c (e ∙ (ap (λ z. x ++ z) t ∙ sym (append_assoc x u (c ∷ v)))) l h

-- ---- the same over the bytes that are left

module _ (cs : List ℕ) (bs rest : List ℕ) (d : ℕ) (left : ℕ) (last : Bool) (u : IsUtf8 bs) (f : bs ≡ encode_utf8 d ++ rest) (size : left ≡ length bs)
    (part : (done : List ℕ) × (cs ≡ done ++ chars bs)) (same : SameBehind cs left (names last (chars bs))) where
  front : chars bs ≡ d ∷ chars rest
  front = chars_past_char bs rest d u f

  pub run_part : (done : List ℕ) × (cs ≡ done ++ chars rest)
  run_part = (part.0 ++ d ∷ [], part.1 ∙ (ap (λ z. part.0 ++ z) front ∙ sym (append_assoc part.0 (d ∷ []) (chars rest))))

  pub run_more : (next : Bool) → ((xs : List ℕ) → names last (d ∷ xs) ≡ names next xs) × (is_letter d ≡ true → next ≡ true) → SameBehind cs (length rest) (names next (chars rest))
  run_more next step =
      let bytes : left ≡ length (encode_utf8_all (d ∷ chars rest)) = size ∙ ap length (sym (encodes-chars bs u) ∙ ap (λ z. encode_utf8_all z) front) in
      let less : length (encode_utf8_all (chars rest)) ≡ length rest = ap length (encodes-chars rest (IsUtf8-past_char bs rest d u f)) in
      subst (λ (n : ℕ). SameBehind cs n (names next (chars rest))) less
      (same_step cs part.0 (chars rest) d left last next (part.1 ∙ ap (λ z. part.0 ++ z) front) bytes
      (subst (λ z. SameBehind cs left (names last z)) front same) (step.0 (chars rest)) step.1)

  pub run_stop : ((xs : List ℕ) → names last (d ∷ xs) ≡ (d == 58 && last)) → (d == 58 && last) ≡ false → IsBarren cs left
  run_stop step no_name = barren_from cs left (names last (chars bs)) same (ap (λ z. names last z) front ∙ (step (chars rest) ∙ no_name))

pub run_end : (cs bs : List ℕ) (left : ℕ) (last : Bool) → length bs ≡ 0 → SameBehind cs left (names last (chars bs)) → IsBarren cs left
run_end cs bs left last z same = barren_from cs left (names last (chars bs)) same (ap (λ z. names last z) (ap chars (nil_from_length bs z) ∙ chars-nil))

pub not_true : (b : Bool) → not b ≡ true → b ≡ false
not_true true h = absurd (true≢false (sym h))
not_true false h = refl

-- ---- the first character

pub at_plain : (c : ℕ) (cs : List ℕ) → is_letter c ≡ true → names true cs ≡ false → best table (c ∷ cs) ≡ later (best plain cs) (len_utf8 c) None
at_plain c cs h n = at_first words_and_prefixes c cs (begun_word c h) ∙ ap (λ o. later o (len_utf8 c) None) (word_same cs n)

pub scan_begun : (text bs rest : List ℕ) (c : ℕ) (fs : Left) (b : Bool) → IsUtf8 text → bs ≡ text → bs ≡ encode_utf8 c ++ rest → (b ≡ true → IsNoPrefix (chars text))
    → (begun c ≡ fs) ⊎ ((b ≡ true) × (is_letter c ≡ true) × (fs ≡ plain)) → best table (chars text) ≡ later (best fs (chars rest)) (len_utf8 c) None
scan_begun text bs rest c fs b u e f q w =
    let front : chars text ≡ c ∷ chars rest = chars_past_char text rest c u (sym e ∙ f) in
    elim w [
      | inl a ↦ scan_first text bs rest c fs u e f a
      | inr a ↦ (ap (λ z. best table z) front ∙ (at_plain c (chars rest) a.1 (q a.0 c (chars rest) front a.1) ∙ ap (λ z. later (best z (chars rest)) (len_utf8 c) None) (sym a.2)))
    ]

pub no_prefix_from : (cs : List ℕ) (left : ℕ) → IsBarren cs left → left < length (encode_utf8_all cs) → IsNoPrefix cs
no_prefix_from cs left b l c v e h = b [] v c e (subst (λ z. left < length (encode_utf8_all z)) e l) h

pub no_prefix_at : (bs : List ℕ) (left : ℕ) → IsUtf8 bs → IsBarren (chars bs) left → left < length bs → IsNoPrefix (chars bs)
no_prefix_at bs left u b l =
    let k : length (encode_utf8_all (chars bs)) ≡ length bs = ap length (encodes-chars bs u) in no_prefix_from (chars bs) left b (omega arith)

skip_suffix : (b : Bool) (cs : List ℕ) → (gap : List ℕ) × (cs ≡ gap ++ skip b cs)
skip_suffix true [] = ([], refl)
skip_suffix false [] = ([], refl)
skip_suffix true (c ∷ cs) = let r : (gap : List ℕ) × (cs ≡ gap ++ skip (not (is_line_end c)) cs) = skip_suffix (not (is_line_end c)) cs in (c ∷ r.0, ap (λ z. c ∷ z) r.1)
skip_suffix false (c ∷ cs) =
    let first : (gap : List ℕ) × (cs ≡ gap ++ skip false cs) = skip_suffix false cs in
    let second : (gap : List ℕ) × (cs ≡ gap ++ skip true cs) = skip_suffix true cs in
    by_tests c cs (is_blank c) (c == 35) (c ∷ first.0, ap (λ z. c ∷ z) first.1) (c ∷ second.0, ap (λ z. c ∷ z) second.1)
  where
    by_tests : (c : ℕ) (cs : List ℕ) (a b : Bool) → (gap : List ℕ) × (c ∷ cs ≡ gap ++ skip false cs) → (gap : List ℕ) × (c ∷ cs ≡ gap ++ skip true cs)
        → (gap : List ℕ) × (c ∷ cs ≡ gap ++ cond a (skip false cs) (cond b (skip true cs) (c ∷ cs)))
    by_tests c cs true b first second = first
    by_tests c cs false true first second = second
    by_tests c cs false false first second = ([], refl)

pub barren_front : (cs front : List ℕ) (left : ℕ) → front ≡ skip false cs → IsBarren cs left → IsBarren front left
barren_front cs front left e b =
    let s : (gap : List ℕ) × (cs ≡ gap ++ skip false cs) = skip_suffix false cs in
    barren_behind cs s.0 front left (s.1 ∙ ap (λ z. s.0 ++ z) (sym e)) b
