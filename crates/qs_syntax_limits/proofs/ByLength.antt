-- A word is like words of its own length alone.
use Rattle.std.proofs.Common.{◌≡◌, ℕ, Bool, true, false, List, [], ◌∷◌, ◌||◌, cond, length, filter, nat_eq, refl, ap, arith}
use Rattle.std.proofs.lemmas.Grind.{common_steps}
use Prim.Native.Nat.compare
use Rattle.std.specs.List.{list_any}
use Rattle.std.specs.Str.{str_eq_ignore_ascii_case}
use Rattle.qs_syntax_limits.specs.LeftOut.{words, is_left_out_word}

other_length : (a b : List ℕ) → nat_eq (length b) (length a) ≡ false → str_eq_ignore_ascii_case a b ≡ false
other_length [] [] h = h
other_length [] (y ∷ ys) h = refl
other_length (x ∷ xs) [] h = refl
other_length (x ∷ xs) (y ∷ ys) h =
    let rest : str_eq_ignore_ascii_case xs ys ≡ false = other_length xs ys (rw compare.suc-suc at h) in
    grind (arith, common_steps, rest)

with_one_more : (test : List ℕ → Bool) (same : Bool) (b : List ℕ) (bs kept : List (List ℕ)) → (same ≡ false → test b ≡ false) → list_any test kept ≡ list_any test bs
    → list_any test (cond same (b ∷ kept) kept) ≡ (test b || list_any test bs)
with_one_more test true b bs kept h rest = ap (λ (t : Bool). test b || t) rest
with_one_more test false b bs kept h rest =
    let no : test b ≡ false = h refl in
    rw no rest

among_its_length : (a : List ℕ) (bs : List (List ℕ)) → list_any (str_eq_ignore_ascii_case a) (filter (λ b. nat_eq (length b) (length a)) bs) ≡ list_any (str_eq_ignore_ascii_case a) bs
among_its_length a [] = refl
among_its_length a (b ∷ bs) =
    with_one_more (str_eq_ignore_ascii_case a) (nat_eq (length b) (length a)) b bs (filter (λ c. nat_eq (length c) (length a)) bs) (other_length a b) (among_its_length a bs)

pub by_length : (a : List ℕ) → list_any (str_eq_ignore_ascii_case a) (filter (λ b. nat_eq (length b) (length a)) words) ≡ is_left_out_word a
unfolding is_left_out_word
by_length a = among_its_length a words
