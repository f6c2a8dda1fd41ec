-- From the longest front to a token list.
use Rattle.std.proofs.Common.{◌≡◌, ◌≤◌, ◌<◌, ℕ, zero, suc, ◌-◌, Bool, true, false, ◌&&◌, ◌==◌, List, [], ◌∷◌, ◌++◌, Some, length, take, drop, refl, sym, ap, ◌∙◌, subst, true≢false, encode_utf8, encode_utf8_all, IsUtf8, chars, IsCharBoundary, arith, length-append, take_at, drop_at}
use Rattle.std.specs.Str.{all_scalars}
use Rattle.std.proofs.lemmas.Str.{encodes-append, encodes-chars, scalars-chars, chars-encodes, length-le-encodes, IsCharBoundary-at_seam, chars-nil, chars_past_char}
use Rattle.std.proofs.lemmas.List.{nil_from_length}
use Rattle.qs_lex.specs.Table.{table}
use Rattle.qs_lex_regular.specs.Longest.{IsFirst, LongestFront}
use Rattle.qs_lex_regular.specs.inner.Best.{best}
use Rattle.qs_lex.specs.Lexes.{Lexeme, Reads, IsLongest, IsPlace, skip}
use Rattle.qs_lex.specs.declared.token.Class.{Class}
use Rattle.qs_lex_regular.proofs.Longest.{best-some, here-none}

-- ---- a token more

pub reads_snoc : (n : ℕ) (cs : List ℕ) (ts : List Lexeme) (rest : List ℕ) (t : Lexeme) (x more : List ℕ) → Reads n cs ts rest
    → skip false rest ≡ x ++ more → IsLongest t.class x more → t.text ≡ encode_utf8_all x → IsPlace n (x ++ more) t.place → Reads n cs (ts ++ t ∷ []) more
reads_snoc n cs [] rest t x more r s l e p = (x, more, ap (λ z. skip false z) r ∙ s, l, e, p, refl)
reads_snoc n cs (u ∷ ts) rest t x more (y, mid, a, b, c, d, r) s l e p = (y, mid, a, b, c, d, reads_snoc n mid ts rest t x more r s l e p)

-- ---- the longest front, in bytes

and-right : (a b : Bool) → (a && b) ≡ true → b ≡ true
and-right true b h = h
and-right false b h = absurd (true≢false (sym h))

scalars_back : (x y : List ℕ) → all_scalars (x ++ y) ≡ true → all_scalars y ≡ true
scalars_back [] y h = h
scalars_back (c ∷ x) y h = scalars_back x y (and-right _ (all_scalars (x ++ y)) h)

pub record Front (bs : List ℕ) (k : Class) (n : ℕ) : Type 0 where
  pub x : List ℕ
  pub more : List ℕ
  pub text : chars bs ≡ x ++ more
  pub longest : IsLongest k x more
  pub token : take n bs ≡ encode_utf8_all x
  pub after : chars (drop n bs) ≡ more
  pub boundary : IsCharBoundary bs n
  pub some : 0 < n
  pub utf8 : IsUtf8 (drop n bs)

pub nonempty : (x : List ℕ) → (x ≡ [] → ⊥) → 0 < length x
nonempty [] h = absurd (h refl)
nonempty (c ∷ x) h = omega arith

pub front_of : (bs : List ℕ) (k : Class) (n : ℕ) → IsUtf8 bs → best table (chars bs) ≡ Some (k, n) → Front bs k n
front_of bs k n u e =
    let f : LongestFront table (chars bs) k n = best-some table (chars bs) k n e in
    let bytes : bs ≡ encode_utf8_all f.front ++ encode_utf8_all f.rest =
    sym (encodes-chars bs u) ∙ (ap (λ z. encode_utf8_all z) f.text ∙ encodes-append f.front f.rest) in
    let scalars : all_scalars f.rest ≡ true = scalars_back f.front f.rest (subst (λ z. all_scalars z ≡ true) f.text (scalars-chars bs u)) in
    let behind : drop n bs ≡ encode_utf8_all f.rest = ap (λ z. drop n z) bytes ∙ drop_at (encode_utf8_all f.front) (encode_utf8_all f.rest) n (sym f.bytes) in
    let some_x : 0 < length f.front = nonempty f.front (λ z. here-none table k refl (subst (λ w. IsFirst table k w) z f.token)) in
    let rest_utf8 : IsUtf8 (encode_utf8_all f.rest) = (f.rest, (scalars, refl)) in
    record {
      x = f.front;
      more = f.rest;
      text = f.text;
      longest = record { token = f.token; longest = λ j u v t h. f.longest j u v (f.text ∙ t) h };
      token = ap (λ z. take n z) bytes ∙ take_at (encode_utf8_all f.front) (encode_utf8_all f.rest) n (sym f.bytes);
      after = ap chars behind ∙ chars-encodes f.rest scalars;
      boundary = subst (λ z. IsCharBoundary bs z) (sym f.bytes) (IsCharBoundary-at_seam bs (encode_utf8_all f.front) (encode_utf8_all f.rest) bytes rest_utf8);
      some = omega (arith, some_x, f.bytes, length-le-encodes f.front);
      utf8 = subst (λ z. IsUtf8 z) (sym behind) rest_utf8;
    }

pub nothing_left : (bs : List ℕ) → length bs ≡ 0 → chars bs ≡ []
nothing_left bs z = ap chars (nil_from_length bs z) ∙ chars-nil

pub something_left : (bs : List ℕ) → IsUtf8 bs → 0 < length bs → 0 < length (chars bs)
something_left bs u h = nonempty (chars bs) (λ e. (let z : bs ≡ [] = sym (encodes-chars bs u) ∙ ap (λ z. encode_utf8_all z) e in let l : length bs ≡ 0 = ap length z in omega arith))

pub place_is : (n : ℕ) (bs x : List ℕ) → IsUtf8 bs → length bs ≤ n → chars bs ≡ x → IsPlace n x (n - length bs)
place_is n bs x u le e =
    let l : length (encode_utf8_all x) ≡ length bs = ap length (ap (λ z. encode_utf8_all z) (sym e) ∙ encodes-chars bs u) in omega arith

-- ---- gaps

pub skip_step : (bs rest : List ℕ) (c : ℕ) (b next : Bool) (t : List ℕ) → IsUtf8 bs → bs ≡ encode_utf8 c ++ rest → ((cs : List ℕ) → skip b (c ∷ cs) ≡ skip next cs)
    → skip b (chars bs) ≡ t → skip next (chars rest) ≡ t
skip_step bs rest c b next t u f s e = sym (s (chars rest)) ∙ (ap (λ z. skip b z) (sym (chars_past_char bs rest c u f)) ∙ e)

pub skip_stop : (bs rest : List ℕ) (c : ℕ) (b : Bool) (t : List ℕ) → IsUtf8 bs → bs ≡ encode_utf8 c ++ rest → ((cs : List ℕ) → skip b (c ∷ cs) ≡ c ∷ cs)
    → skip b (chars bs) ≡ t → chars bs ≡ t
skip_stop bs rest c b t u f s e = let front : chars bs ≡ c ∷ chars rest = chars_past_char bs rest c u f in front ∙ (sym (s (chars rest)) ∙ (ap (λ z. skip b z) (sym front) ∙ e))

skip_nil : (b : Bool) → skip b [] ≡ []
skip_nil true = refl
skip_nil false = refl

pub skip_end : (b : Bool) (bs t : List ℕ) → length bs ≡ 0 → skip b (chars bs) ≡ t → chars bs ≡ t
skip_end b bs t z e = nothing_left bs z ∙ (sym (skip_nil b) ∙ (ap (λ w. skip b w) (sym (nothing_left bs z)) ∙ e))

pub shorter : (bs rest : List ℕ) (c : ℕ) → bs ≡ encode_utf8 c ++ rest → length rest ≤ length bs
shorter bs rest c f = omega (arith, ap length f, length-append (encode_utf8 c) rest)

pub some_from : (n : ℕ) → false ≡ (n == 0) → 0 < n
some_from zero e = absurd (true≢false (sym e))
some_from (suc n) e = omega arith
