-- A word is like words of its own length alone.
use Rattle.std.proofs.Common.{◌≡◌, ℕ, Bool, true, false, List, [], ◌∷◌, cond, length, filter, nat_eq, refl, ap, arith}
use Rattle.std.proofs.lemmas.Grind.{common_steps}
use Prim.Native.Nat.compare
use Rattle.std.specs.Str.{str_eq_ignore_ascii_case}
use Rattle.qs_syntax_tree.specs.declared.kind.Kind.{Kind}
use Rattle.qs_syntax_tree.specs.declared.kind.Kind.TheVariants as k
use Rattle.qs_syntax_tree.specs.Words.{find_kind, keywords}

pub other_length : (a b : List ℕ) → nat_eq (length b) (length a) ≡ false → str_eq_ignore_ascii_case a b ≡ false
other_length [] [] h = h
other_length [] (y ∷ ys) h = refl
other_length (x ∷ xs) [] h = refl
other_length (x ∷ xs) (y ∷ ys) h =
    let rest : str_eq_ignore_ascii_case xs ys ≡ false = other_length xs ys (rw compare.suc-suc at h) in
    grind (arith, common_steps, rest)

with_one_more : (like : List ℕ → List ℕ → Bool) (text : List ℕ) (same : Bool) (row : List ℕ × Kind) (kept : List (List ℕ × Kind)) (rest : Kind) → (same ≡ false → like text row.0 ≡ false)
    → find_kind like k.Word kept text ≡ rest → find_kind like k.Word (cond same (row ∷ kept) kept) text ≡ cond (like text row.0) row.1 rest
with_one_more like text true row kept rest h e = ap (λ (z : Kind). cond (like text row.0) row.1 z) e
with_one_more like text false row kept rest h e =
    let no : like text row.0 ≡ false = h refl in
    rw no e

among_its_length : (w : List ℕ) (rows : List (List ℕ × Kind))
    → find_kind str_eq_ignore_ascii_case k.Word (filter (λ row. nat_eq (length row.0) (length w)) rows) w ≡ find_kind str_eq_ignore_ascii_case k.Word rows w
among_its_length w [] = refl
among_its_length w (row ∷ rows) =
    with_one_more str_eq_ignore_ascii_case w (nat_eq (length row.0) (length w)) row (filter (λ (r : List ℕ × Kind). nat_eq (length r.0) (length w)) rows)
    (find_kind str_eq_ignore_ascii_case k.Word rows w) (other_length w row.0) (among_its_length w rows)

pub by_length : (w : List ℕ) → find_kind str_eq_ignore_ascii_case k.Word (filter (λ row. nat_eq (length row.0) (length w)) keywords) w ≡ find_kind str_eq_ignore_ascii_case k.Word keywords w
by_length w = among_its_length w keywords
