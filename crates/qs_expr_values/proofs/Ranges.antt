-- A front of a tag and `-`.
use Rattle.std.proofs.Common.{◌≡◌, ℕ, ◌<◌, ◌≤◌, ◌==◌, Bool, true, false, ◌&&◌, nat_eq, List, [], ◌∷◌, ◌++◌, take, length, get_or, refl, ap, ◌∙◌, arith}
use Rattle.std.specs.Str.{bytes_eq}
use Rattle.std.specs.Char.{to_ascii_lowercase}
use Rattle.std.specs.List.{starts_with}
use Rattle.std.proofs.lemmas.Bool.Decides.{nat_tests}
use Rattle.qs_terms.specs.Tag.{lowered}
use Rattle.qs_expr_values.specs.Text.{begins_with_range}

-- `-` is no letter
dash : (c : ℕ) → nat_eq 45 (to_ascii_lowercase c) ≡ nat_eq c 45
dash c = grind (arith, nat_tests)

swapped : (a b : ℕ) → nat_eq a b ≡ nat_eq b a
swapped a b = grind (arith, nat_tests)

exchanged : (x p q : Bool) → x && (p && q) ≡ p && (x && q)
exchanged true true q = refl
exchanged true false q = refl
exchanged false true q = refl
exchanged false false q = refl

and_false : (x : Bool) → x && false ≡ false
and_false true = refl
and_false false = refl

within : (range tag : List ℕ) → length range < length tag → starts_with nat_eq (lowered tag) (lowered range ++ 45 ∷ []) ≡ (nat_eq (get_or tag (length range) 0) 45 && bytes_eq (lowered (take (length range) tag)) (lowered range))
within range [] l = absurd (omega arith)
within [] (c ∷ tag) l = ap (λ b. b && true) (dash c)
within (d ∷ range) (c ∷ tag) l =
    ap (λ b. nat_eq (to_ascii_lowercase d) (to_ascii_lowercase c) && b) (within range tag (omega arith))
    ∙ (exchanged (nat_eq (to_ascii_lowercase d) (to_ascii_lowercase c)) (nat_eq (get_or tag (length range) 0) 45) (bytes_eq (lowered (take (length range) tag)) (lowered range))
    ∙ ap (λ b. nat_eq (get_or tag (length range) 0) 45 && (b && bytes_eq (lowered (take (length range) tag)) (lowered range))) (swapped (to_ascii_lowercase d) (to_ascii_lowercase c)))

past : (range tag : List ℕ) → length tag ≤ length range → starts_with nat_eq (lowered tag) (lowered range ++ 45 ∷ []) ≡ false
past [] [] l = refl
past [] (c ∷ tag) l = absurd (omega arith)
past (d ∷ range) [] l = refl
past (d ∷ range) (c ∷ tag) l = ap (λ b. nat_eq (to_ascii_lowercase d) (to_ascii_lowercase c) && b) (past range tag (omega arith)) ∙ and_false (nat_eq (to_ascii_lowercase d) (to_ascii_lowercase c))

pub begins : (range tag : List ℕ) → (length range == 0) ≡ false → length range < length tag → begins_with_range (lowered range) (lowered tag) ≡ (nat_eq (get_or tag (length range) 0) 45 && bytes_eq (lowered (take (length range) tag)) (lowered range))
begins [] tag n l = let k : true ≡ false = n in cc
begins (d ∷ range) tag n l = within (d ∷ range) tag l

pub begins_short : (range tag : List ℕ) → length tag ≤ length range → begins_with_range (lowered range) (lowered tag) ≡ false
begins_short [] tag l = refl
begins_short (d ∷ range) tag l = past (d ∷ range) tag l

pub begins_empty : (range tag : List ℕ) → (length range == 0) ≡ true → begins_with_range (lowered range) (lowered tag) ≡ false
begins_empty [] tag h = refl
begins_empty (d ∷ range) tag h = grind (arith, nat_tests)
