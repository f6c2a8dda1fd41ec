-- The longest front, in bytes.
use Rattle.std.proofs.Common.{◌≡◌, ◌<◌, ℕ, Bool, true, false, ◌&&◌, List, [], ◌∷◌, ◌++◌, Some, length, drop, refl, sym, ap, ◌∙◌, subst, true≢false, encode_utf8_all, IsUtf8, chars, IsCharBoundary, arith, drop_at}
use Rattle.std.specs.Str.{all_scalars}
use Rattle.std.proofs.lemmas.Str.{encodes-append, encodes-chars, scalars-chars, length-le-encodes, IsCharBoundary-at_seam}
use Rattle.qs_nquads.specs.Table.{table}
use Rattle.qs_lex_regular.specs.Longest.{IsFirst, LongestFront}
use Rattle.qs_lex_regular.specs.inner.Best.{best}
use Rattle.qs_nquads.specs.declared.class.Class.{Class}
use Rattle.qs_lex_regular.proofs.Longest.{best-some, here-none}

and-right : (a b : Bool) → (a && b) ≡ true → b ≡ true
and-right true b h = h
and-right false b h = absurd (true≢false (sym h))

pub scalars_back : (x y : List ℕ) → all_scalars (x ++ y) ≡ true → all_scalars y ≡ true
scalars_back [] y h = h
scalars_back (c ∷ x) y h = scalars_back x y (and-right _ (all_scalars (x ++ y)) h)

-- a text may be cut after its longest front, which isn't empty
pub record Front (bs : List ℕ) (n : ℕ) : Type 0 where
  pub boundary : IsCharBoundary bs n
  pub some : 0 < n
  pub utf8 : IsUtf8 (drop n bs)

nonempty : (x : List ℕ) → (x ≡ [] → ⊥) → 0 < length x
nonempty [] h = absurd (h refl)
nonempty (c ∷ x) h = omega arith

pub front_of : (bs : List ℕ) (k : Class) (n : ℕ) → IsUtf8 bs → best table (chars bs) ≡ Some (k, n) → Front bs n
front_of bs k n u e =
    let f : LongestFront table (chars bs) k n = best-some table (chars bs) k n e in
    let bytes : bs ≡ encode_utf8_all f.front ++ encode_utf8_all f.rest =
    sym (encodes-chars bs u) ∙ (ap (λ z. encode_utf8_all z) f.text ∙ encodes-append f.front f.rest) in
    let scalars : all_scalars f.rest ≡ true = scalars_back f.front f.rest (subst (λ z. all_scalars z ≡ true) f.text (scalars-chars bs u)) in
    let behind : drop n bs ≡ encode_utf8_all f.rest = ap (λ z. drop n z) bytes ∙ drop_at (encode_utf8_all f.front) (encode_utf8_all f.rest) n (sym f.bytes) in
    let some_x : 0 < length f.front = nonempty f.front (λ z. here-none table k refl (subst (λ w. IsFirst table k w) z f.token)) in
    let rest_utf8 : IsUtf8 (encode_utf8_all f.rest) = (f.rest, (scalars, refl)) in
    record {
      boundary = subst (λ z. IsCharBoundary bs z) (sym f.bytes) (IsCharBoundary-at_seam bs (encode_utf8_all f.front) (encode_utf8_all f.rest) bytes rest_utf8);
      some = omega (arith, some_x, f.bytes, length-le-encodes f.front);
      utf8 = subst (λ z. IsUtf8 z) (sym behind) rest_utf8;
    }
