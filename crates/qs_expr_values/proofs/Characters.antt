-- What matches in UTF-8 texts byte for byte matches character for character: it begins and ends where characters do.
use Rattle.std.proofs.Common.{◌≡◌, ℕ, ◌+◌, ◌-◌, ◌<◌, ◌≤◌, nat_eq, List, [], ◌∷◌, ◌++◌, take, length, get_or, refl, sym, ap, ◌∙◌, subst, append-nil, length-append, arith}
use Rattle.std.specs.Bool.{Decides}
use Rattle.std.specs.List.{starts_with, ends_with}
use Rattle.std.specs.Str.{IsUtf8, IsCharBoundary, chars}
use Rattle.std.specs.Str.Iter.{HasSubslice}
use Rattle.std.proofs.lemmas.Bool.Decides.{same_from_decides, Decides-like, Decides-eqb}
use Rattle.std.proofs.lemmas.Slice.Eq.{ends_is}
use Rattle.std.proofs.lemmas.Str.{chars-nil, chars-append, encodes-append, encodes-chars, IsCharBoundary-start, IsUtf8-take}
use Rattle.std.proofs.Math.Seq.{take-append_seam, get_or-append_seam}
use lib.Utf8.{encodes}
use Rattle.qs_expr_values.specs.Text.{stands_in}
use Rattle.qs_expr_values.proofs.Texts.{HasFront, front, standing}

abbrev HasEnd : List ℕ → List ℕ → Type 0
HasEnd s n = (a : List ℕ) × (s ≡ a ++ n)

end_of : (n s : List ℕ) → Decides (ends_with nat_eq s n) (HasEnd s n)
end_of n s =
    let d = ends_is Decides-eqb s n (ends_with nat_eq s n) refl in
    ((λ t. (take (length s - length n) s, d.0 t)), λ (h : HasEnd s n). d.1 h.0 h.1)

-- ---- where a match begins

-- a text that has something begins at a character's boundary of each text that it stands in
boundary : (c : ℕ) (ns s a b : List ℕ) → IsUtf8 (c ∷ ns) → s ≡ a ++ (c ∷ ns ++ b) → IsCharBoundary s (length a)
boundary c ns s a b un e =
    let start = IsCharBoundary-start (c ∷ ns) un in
    let here : get_or s (length a) 0 ≡ c = ap (λ l. get_or l (length a) 0) e ∙ get_or-append_seam a c (ns ++ b) 0 in
    let some : 0 < length (c ∷ ns) = omega arith in
    let lead : 128 ≤ c → 192 ≤ c = λ h. start.1 some h in
    let long : length s ≡ length a + length (c ∷ ns ++ b) = ap length e ∙ length-append a (c ∷ ns ++ b) in
    (omega arith, λ _ h. subst (λ x. 192 ≤ x) (sym here) (lead (subst (λ x. 128 ≤ x) here h)))

before : (c : ℕ) (ns s a b : List ℕ) → IsUtf8 s → IsUtf8 (c ∷ ns) → s ≡ a ++ (c ∷ ns ++ b) → IsUtf8 a
before c ns s a b us un e =
    let cut : take (length a) s ≡ a = ap (take (length a)) e ∙ take-append_seam a (c ∷ ns ++ b) in
    subst IsUtf8 cut (IsUtf8-take s (length a) us (boundary c ns s a b un e))

-- ---- from bytes to characters

front_of_chars : (s n : List ℕ) → IsUtf8 n → HasFront s n → HasFront (chars s) (chars n)
front_of_chars s n un (b, e) = (chars b, ap chars e ∙ chars-append n b un)

part_of_chars : (s n : List ℕ) → IsUtf8 s → IsUtf8 n → HasSubslice s n → HasSubslice (chars s) (chars n)
part_of_chars s [] us un h = ([], chars s, sym (ap (λ l. l ++ chars s) chars-nil))
part_of_chars s (c ∷ ns) us un (a, b, e) = (
  chars a,
  chars b,
  ap chars e ∙ (chars-append a (c ∷ ns ++ b) (before c ns s a b us un e) ∙ ap (λ l. chars a ++ l) (chars-append (c ∷ ns) b un)),
)

end_of_chars : (s n : List ℕ) → IsUtf8 s → IsUtf8 n → HasEnd s n → HasEnd (chars s) (chars n)
end_of_chars s [] us un h = (chars s, sym (ap (λ l. chars s ++ l) chars-nil ∙ append-nil (chars s)))
end_of_chars s (c ∷ ns) us un (a, e) =
    let whole : s ≡ a ++ (c ∷ ns ++ []) = e ∙ ap (λ l. a ++ l) (sym (append-nil (c ∷ ns))) in
    (chars a, ap chars e ∙ chars-append a (c ∷ ns) (before c ns s a [] us un whole))

-- ---- and back

front_of_bytes : (s n : List ℕ) → IsUtf8 s → IsUtf8 n → HasFront (chars s) (chars n) → HasFront s n
front_of_bytes s n us un (b, e) =
    (encodes b, sym (encodes-chars s us) ∙ (ap encodes e ∙ (encodes-append (chars n) b ∙ ap (λ l. l ++ encodes b) (encodes-chars n un))))

part_of_bytes : (s n : List ℕ) → IsUtf8 s → IsUtf8 n → HasSubslice (chars s) (chars n) → HasSubslice s n
part_of_bytes s n us un (a, b, e) = (
  encodes a,
  encodes b,
  sym (encodes-chars s us)
      ∙ (ap encodes e ∙ (encodes-append a (chars n ++ b) ∙ ap (λ l. encodes a ++ l) (encodes-append (chars n) b ∙ ap (λ l. l ++ encodes b) (encodes-chars n un)))),
)

end_of_bytes : (s n : List ℕ) → IsUtf8 s → IsUtf8 n → HasEnd (chars s) (chars n) → HasEnd s n
end_of_bytes s n us un (a, e) =
    (encodes a, sym (encodes-chars s us) ∙ (ap encodes e ∙ (encodes-append a (chars n) ∙ ap (λ l. encodes a ++ l) (encodes-chars n un))))

-- ---- so the tests agree

pub contains : (s n : List ℕ) → IsUtf8 s → IsUtf8 n → stands_in n s ≡ stands_in (chars n) (chars s)
contains s n us un =
    same_from_decides (stands_in n s) (stands_in (chars n) (chars s)) (standing n s)
    (Decides-like (stands_in (chars n) (chars s)) (part_of_bytes s n us un) (part_of_chars s n us un) (standing (chars n) (chars s)))

pub starts : (s n : List ℕ) → IsUtf8 s → IsUtf8 n → starts_with nat_eq s n ≡ starts_with nat_eq (chars s) (chars n)
starts s n us un =
    same_from_decides (starts_with nat_eq s n) (starts_with nat_eq (chars s) (chars n)) (front n s)
    (Decides-like (starts_with nat_eq (chars s) (chars n)) (front_of_bytes s n us un) (front_of_chars s n un) (front (chars n) (chars s)))

pub ends : (s n : List ℕ) → IsUtf8 s → IsUtf8 n → ends_with nat_eq s n ≡ ends_with nat_eq (chars s) (chars n)
ends s n us un =
    same_from_decides (ends_with nat_eq s n) (ends_with nat_eq (chars s) (chars n)) (end_of n s)
    (Decides-like (ends_with nat_eq (chars s) (chars n)) (end_of_bytes s n us un) (end_of_chars s n us un) (end_of (chars n) (chars s)))
