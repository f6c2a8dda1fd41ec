-- Pieces of a text.
use Rattle.std.proofs.Common.{◌≡◌, ℕ, ◌+◌, ◌-◌, List, ◌++◌, length, take, drop, refl, sym, ap, ◌∙◌, arith, length-append, take_at, drop_at, IsUtf8}
use Rattle.std.specs.Prelude.{slice_range}
use Rattle.qs_lex_escapes.specs.Piece.{piece}
use Rattle.qs_lex_escapes.proofs.Pieces as pieces

-- what stands in a text is the piece from where it begins to where it ends
pub piece_between : (text before found after : List ℕ) (i j : ℕ) → IsUtf8 text → IsUtf8 found → text ≡ before ++ (found ++ after) → i ≡ length before → j ≡ i + length found → piece text i j ≡ found
piece_between text before found after i j u v e a b =
    let behind : drop i text ≡ found ++ after = ap (drop i) e ∙ drop_at before (found ++ after) i (sym a) in
    let n : j - i ≡ length found = omega arith in
    let cut : found ≡ slice_range text i j = sym (ap (λ k. take k (drop i text)) n ∙ (ap (take (length found)) behind ∙ take_at found after (length found) refl)) in
    let size : length text ≡ length before + length (found ++ after) = ap length e ∙ length-append before (found ++ after) in
    let inner : length (found ++ after) ≡ length found + length after = length-append found after in
    sym (pieces.some text found i j u v cut (omega arith) (omega arith))
