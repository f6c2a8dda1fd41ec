-- Hex of bytes in parts.
use Rattle.std.proofs.Common.{◌≡◌, ℕ, List, [], ◌∷◌, ◌++◌, ◌/◌, ◌%◌, refl, ap, sym, ◌∙◌, append_assoc, slice_index, take, drop}
use Rattle.std.proofs.lemmas.List.{append-nil, take-append-drop}
use Rattle.hex.specs.Hex.{encode_with, encode_lower, lower_digits}

encode_append : (t a b : List ℕ) → encode_with t (a ++ b) ≡ encode_with t a ++ encode_with t b
unfolding encode_with
encode_append t [] b = refl
encode_append t (x ∷ a) b = ap (λ (l : List ℕ). slice_index t (x / 16) ∷ slice_index t (x % 16) ∷ l) (encode_append t a b)

-- bytes in two parts
hex_of_parts : (a b : List ℕ) → encode_lower (a ++ b) ≡ encode_lower a ++ encode_lower b
hex_of_parts a b = encode_append lower_digits a b

-- the hex of the first of what is left comes after the line
pub hex_more : (line more whole rest piece behind : List ℕ) (n : ℕ) → more ≡ line ++ encode_lower piece → piece ≡ take n rest → behind ≡ drop n rest → line ++ encode_lower rest ≡ whole
    → more ++ encode_lower behind ≡ whole
hex_more line more whole rest piece behind n is front back so_far =
    let parts : piece ++ behind ≡ rest = ap (λ (l : List ℕ). l ++ behind) front ∙ (ap (λ (l : List ℕ). take n rest ++ l) back ∙ take-append-drop n rest) in
    ap (λ (l : List ℕ). l ++ encode_lower behind) is
    ∙ (append_assoc line (encode_lower piece) (encode_lower behind)
    ∙ (ap (λ (l : List ℕ). line ++ l) (sym (hex_of_parts piece behind) ∙ ap encode_lower parts) ∙ so_far))

-- nothing is left
pub hex_whole : (line whole rest : List ℕ) → rest ≡ [] → line ++ encode_lower rest ≡ whole → line ≡ whole
unfolding encode_with
hex_whole line whole rest is so_far = sym (append-nil line) ∙ (ap (λ (l : List ℕ). line ++ encode_lower l) (sym is) ∙ so_far)
