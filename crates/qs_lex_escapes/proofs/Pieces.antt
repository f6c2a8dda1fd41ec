-- What `get` finds of a text is the piece.
use Rattle.std.proofs.Common.{◌≡◌, ℕ, ◌+◌, ◌-◌, ◌<◌, ◌≤◌, ◌⊎◌, inl, inr, true, List, [], length, take, drop, slice_index, slice_range, ◌∙◌, ap, subst, arith, length-drop}
use Rattle.std.proofs.Math.Nat.{eq-or-lt_of_le, add-zero}
use Rattle.std.proofs.lemmas.List.{get_or_past, get_or-take, get_or-drop}
use Rattle.std.proofs.lemmas.Bool.Decides.{nat_tests}
use Rattle.std.proofs.lemmas.Str.{IsCharBoundary-start, IsUtf8-drop, IsCharBoundary-from_take, IsCharBoundary-from_rest}
use Rattle.std.specs.Str.{IsUtf8, IsCharBoundary}
use Rattle.qs_lex_escapes.specs.Piece.{is_boundary, piece}

boundary-true : (text : List ℕ) (p : ℕ) → IsCharBoundary text p → is_boundary text p ≡ true
boundary-true text p h = let past : length text ≤ p → slice_index text p ≡ 0 = get_or_past text p 0 in grind (arith, nat_tests)

boundary_from_true : (text : List ℕ) (p : ℕ) → is_boundary text p ≡ true → IsCharBoundary text p
boundary_from_true text p h = (grind (arith, nat_tests), λ l m. grind (arith, nat_tests))

-- a piece that is found as a text begins and ends at boundaries, unless it is empty
found_start : (text found : List ℕ) (i j : ℕ) → IsUtf8 found → found ≡ slice_range text i j → length found + i ≡ j → j ≤ length text → i < j → IsCharBoundary text i
found_start text found i j v e n l p =
    let first : slice_index found 0 ≡ slice_index text i = ap (λ xs. slice_index xs 0) e ∙ get_or-take (j - i) (drop i text) 0 0 (omega arith) ∙ get_or-drop i text 0 0 ∙ ap (λ k. slice_index text k) (add-zero i) in
    let start : IsCharBoundary found 0 = IsCharBoundary-start found v in
    (omega arith, λ _ h. rw (← first) (start.1 (omega arith) (rw first h)))

found_end : (text found : List ℕ) (i j : ℕ) → IsUtf8 text → IsUtf8 found → found ≡ slice_range text i j → length found + i ≡ j → j ≤ length text → i < j → IsCharBoundary text j
found_end text found i j u v e n l p =
    let begin = found_start text found i j v e n l p in
    let front : IsUtf8 (take (j - i) (drop i text)) = subst IsUtf8 e v in
    let cut : IsCharBoundary (drop i text) (j - i) = IsCharBoundary-from_take (drop i text) (j - i) (IsUtf8-drop text i u begin) (omega (arith, length-drop i text)) front in
    let here : i + (j - i) ≡ j = omega arith in
    subst (λ k. IsCharBoundary text k) here (IsCharBoundary-from_rest text i (j - i) (omega arith) cut)

-- a range is a piece where it is empty, or may be cut at both ends
range_is_piece : (text : List ℕ) (i j : ℕ) → (i ≡ j) ⊎ (i < j) → (i < j → is_boundary text i ≡ true) → (i < j → is_boundary text j ≡ true) → slice_range text i j ≡ piece text i j
unfolding piece
range_is_piece text i j (inl e) b c = let n : j - i ≡ 0 = omega arith in rw n grind (arith, nat_tests)
range_is_piece text i j (inr l) b c = let x = b l in let y = c l in grind (arith, nat_tests)

pub some : (text found : List ℕ) (i j : ℕ) → IsUtf8 text → IsUtf8 found → found ≡ slice_range text i j → length found + i ≡ j → j ≤ length text → found ≡ piece text i j
some text found i j u v e n l =
    e ∙ range_is_piece text i j (eq-or-lt_of_le (omega arith)) (λ h. boundary-true text i (found_start text found i j v e n l h)) (λ h. boundary-true text j (found_end text found i j u v e n l h))

pub none : (text : List ℕ) (i j : ℕ) → (i ≤ j → IsCharBoundary text i → ¬ (IsCharBoundary text j)) → [] ≡ piece text i j
unfolding piece
none text i j h =
    let no : i ≤ j → is_boundary text i ≡ true → is_boundary text j ≡ true → ⊥ = λ l b c. h l (boundary_from_true text i b) (boundary_from_true text j c) in
    grind (arith, nat_tests)
