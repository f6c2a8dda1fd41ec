-- Runs of plain characters, a byte at a time.
use Rattle.std.proofs.Common.{◌≡◌, ◌<◌, ℕ, ◌+◌, Bool, true, false, ◌&&◌, List, [], ◌∷◌, ◌++◌, length, drop, Option, Some, None, refl, sym, ap, ◌∙◌, subst, cond, not, nat_lt, IsCharBoundary, length-drop, true≢false, ltb-true, arith, add-zero, IsUtf8, chars, encode_utf8}
use Rattle.std.proofs.lemmas.Str.{chars_past_char, IsUtf8-past_char, IsUtf8-drop, IsCharBoundary-from_drop, encode_ascii, length-encode}
use Rattle.std.proofs.lemmas.List.Sums.{prefix_len-le-length}
use native.Mathlib.Numerals.{one-add}
use Rattle.std.proofs.lemmas.Option.{same_Some, none-some}
use Rattle.std.proofs.lemmas.Bool.{ltb-false}
use Rattle.std.specs.Char.{len_utf8}
use Rattle.std.specs.List.{position_or_len, position}
use Rattle.qs_lex_regular.specs.Character.{is_iri_char}
use Rattle.qs_lex_regular.specs.inner.Best.{advance, here, longer, best}
use Rattle.qs_lex_regular.specs.inner.Scan.{hold, later}
use Rattle.qs_lex_regular.proofs.Scan.{at_step}
use Rattle.qs_nquads.specs.Table.{is_string_char}
use Rattle.qs_nquads.specs.inner.State.{Left, left}
use Rattle.qs_nquads.proofs.Apart.{iri_backslash, iri_greater, string_backslash, string_quote}
use Rattle.qs_nquads.specs.inner.Run.{ends_in_iri, ends_in_string, HasRun}
use Rattle.qs_nquads.specs.declared.class.Class.{Class}
use Rattle.qs_nquads.specs.declared.class.Class.TheVariants as class
use Rattle.qs_nquads.specs.declared.state.State.{State}
use Rattle.qs_nquads.specs.declared.state.State.TheVariants as state

-- where the empty front is of a class, some front is, whatever was found before
found_here : (k : Class) (c : ℕ) (o : Option (Class × ℕ)) (len : ℕ) (f g : Option (Class × ℕ)) → later (longer c o (Some k)) len f ≡ later (longer c o (Some k)) len g
found_here k c None len f g = refl
found_here k c (Some t) len f g = refl

ascii_width : (c : ℕ) → c < 128 → len_utf8 c ≡ 1
ascii_width c l = sym (length-encode c) ∙ ap length (encode_ascii c l)

module _ (fs : Left) (k : Class) (nullable : here fs ≡ Some k) where
  anew : (cs : List ℕ) (len : ℕ) (f g : Option (Class × ℕ)) → later (best fs cs) len f ≡ later (best fs cs) len g
  anew [] len f g = rw nullable refl
  anew (c ∷ cs) len f g = rw nullable (found_here k c (best (advance fs c) cs) len f g)

  module _ (ends : ℕ → Bool) (plain : (c : ℕ) → ends c ≡ false → (c < 128) × (advance fs c ≡ fs)) where
    abbrev Past : List ℕ → ℕ → Type 0
    Past bs n = IsUtf8 (drop n bs) × ((len : ℕ) (found : Option (Class × ℕ)) → later (best fs (chars bs)) len found ≡ later (best fs (chars (drop n bs))) (len + n) found)

    none : (bs : List ℕ) → IsUtf8 bs → Past bs 0
    none bs u = (u, λ len found. rw (add-zero len) refl)

    past_at : (e : Bool) (b : ℕ) (bs : List ℕ) → ends b ≡ e → IsUtf8 (b ∷ bs) → (IsUtf8 bs → Past bs (position_or_len ends bs)) → Past (b ∷ bs) (position_or_len ends (b ∷ bs))
    past_at true b bs e u more = rw e (none (b ∷ bs) u)
    past_at false b bs e u more =
        let p = plain b e in
        let front : b ∷ bs ≡ encode_utf8 b ++ bs = rw (encode_ascii b p.0) refl in
        let m = more (IsUtf8-past_char (b ∷ bs) bs b u front) in
        let width : len_utf8 b ≡ 1 = ascii_width b p.0 in
        rw (e, one-add) (
          m.0,
          λ len found. ap (λ z. later (best fs z) len found) (chars_past_char (b ∷ bs) bs b u front) ∙ (at_step fs fs b (chars bs) len found p.1
              ∙ (anew (chars bs) (len + len_utf8 b) (hold (here fs) len found) found ∙ (m.1 (len + len_utf8 b) found
              ∙ ap (λ n. later (best fs (chars (drop (position_or_len ends bs) bs))) n found) (omega (arith, width))))),
        )

    past : (bs : List ℕ) → IsUtf8 bs → Past bs (position_or_len ends bs)
    past [] u = none [] u
    past (b ∷ bs) u = past_at (ends b) b bs refl u (past bs)

-- ---- what `position` gives

module _ (p : ℕ → Bool) (xs : List ℕ) where
  some_by : (b : Bool) (n : ℕ) → Some n ≡ cond b (Some (position_or_len p xs)) None → n ≡ position_or_len p xs
  some_by true n e = same_Some n _ e
  some_by false n e = absurd (none-some n (sym e))

  none_by : (b : Bool) → nat_lt (position_or_len p xs) (length xs) ≡ b → None ≡ cond b (Some (position_or_len p xs)) None → length xs ≡ position_or_len p xs
  none_by true h e = absurd (none-some _ e)
  none_by false h e = omega (arith, ltb-false (position_or_len p xs) (length xs) h, prefix_len-le-length (λ x. not (p x)) xs)

-- ---- within an IRI, and within a string

tests : (a b : Bool) → not (a && b) ≡ false → (a ≡ true) × (b ≡ true)
tests true true h = (refl, refl)
tests true false h = absurd (true≢false h)
tests false b h = absurd (true≢false h)

plain_in_iri : (c : ℕ) → ends_in_iri c ≡ false → (c < 128) × (advance (left state.Iri) c ≡ left state.Iri)
unfolding ends_in_iri
plain_in_iri c h =
    let t = tests (nat_lt c 128) (is_iri_char c) h in
    (ltb-true c 128 t.0, rw (t.1, iri_backslash c t.1, iri_greater c t.1) refl)

plain_in_string : (c : ℕ) → ends_in_string c ≡ false → (c < 128) × (advance (left state.String) c ≡ left state.String)
unfolding ends_in_string
plain_in_string c h =
    let t = tests (nat_lt c 128) (is_string_char c) h in
    (ltb-true c 128 t.0, rw (t.1, string_backslash c t.1, string_quote c t.1) refl)

run_of : (s : State) (bs : List ℕ) (ends : ℕ → Bool) → here (left s) ≡ Some class.Open → ((c : ℕ) → ends c ≡ false → (c < 128) × (advance (left s) c ≡ left s))
    → IsUtf8 bs → HasRun s bs (position_or_len ends bs)
run_of s bs ends h plain u =
    let p = past (left s) class.Open h ends plain bs u in
    record { boundary = IsCharBoundary-from_drop bs _ (prefix_len-le-length (λ x. not (ends x)) bs) p.0; best = p.1 }

-- with the place of what ends it, or without any
module _ (s : State) (ends : ℕ → Bool) (h : here (left s) ≡ Some class.Open) (plain : (c : ℕ) → ends c ≡ false → (c < 128) × (advance (left s) c ≡ left s)) (bs : List ℕ) (u : IsUtf8 bs) where
  ended : (n : ℕ) → Some n ≡ position ends bs → HasRun s bs n
  ended n e = subst (λ m. HasRun s bs m) (sym (some_by ends bs (nat_lt (position_or_len ends bs) (length bs)) n e)) (run_of s bs ends h plain u)

  unended : None ≡ position ends bs → HasRun s bs (length bs)
  unended e = subst (λ m. HasRun s bs m) (sym (none_by ends bs (nat_lt (position_or_len ends bs) (length bs)) refl e)) (run_of s bs ends h plain u)

pub iri_ended : (bs : List ℕ) (n : ℕ) → IsUtf8 bs → Some n ≡ position ends_in_iri bs → HasRun state.Iri bs n
iri_ended bs n u e = ended state.Iri ends_in_iri refl plain_in_iri bs u n e

pub iri_unended : (bs : List ℕ) → IsUtf8 bs → None ≡ position ends_in_iri bs → HasRun state.Iri bs (length bs)
iri_unended bs u e = unended state.Iri ends_in_iri refl plain_in_iri bs u e

pub string_ended : (bs : List ℕ) (n : ℕ) → IsUtf8 bs → Some n ≡ position ends_in_string bs → HasRun state.String bs n
string_ended bs n u e = ended state.String ends_in_string refl plain_in_string bs u n e

pub string_unended : (bs : List ℕ) → IsUtf8 bs → None ≡ position ends_in_string bs → HasRun state.String bs (length bs)
string_unended bs u e = unended state.String ends_in_string refl plain_in_string bs u e

-- no bytes at all
pub no_run : (s : State) (bs : List ℕ) → IsUtf8 bs → HasRun s bs 0
no_run s bs u = record { boundary = IsCharBoundary-from_drop bs 0 (omega arith) u; best = λ len found. rw (add-zero len) refl }

-- ---- what stands after a run

module _ (s : State) (shown mid behind rest : List ℕ) (n : ℕ) (run : HasRun s shown n) (is : shown ≡ mid) (cut : behind ≡ drop n shown) (same : rest ≡ behind) where
  left_over : rest ≡ drop n mid
  left_over = same ∙ (cut ∙ ap (λ z. drop n z) is)

  pub behind_utf8 : IsUtf8 mid → IsUtf8 rest
  behind_utf8 u = subst (λ z. IsUtf8 z) (sym left_over) (IsUtf8-drop mid n u (subst (λ z. IsCharBoundary z n) is run.boundary))

  pub behind_size : n + length rest ≡ length mid
  behind_size = omega (arith, ap length left_over, length-drop n mid, ap length is, run.boundary.0)

  pub behind_best : (len : ℕ) (found : Option (Class × ℕ)) → later (best (left s) (chars mid)) len found ≡ later (best (left s) (chars rest)) (len + n) found
  behind_best len found = rw left_over (subst (λ z. later (best (left s) (chars z)) len found ≡ later (best (left s) (chars (drop n z))) (len + n) found) is (run.best len found))
