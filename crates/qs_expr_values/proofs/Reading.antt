-- Digits that are read one after another.
use Rattle.std.proofs.Common.{◌≡◌, ℕ, ◌+◌, ◌-◌, ◌*◌, ◌^◌, ◌<◌, ◌≤◌, ◌==◌, true, false, ◌&&◌, List, ◌∷◌, length, drop, slice_index, Some, None, sym, ap, ◌∙◌, arith, add-one, if◌then◌else◌}
use Rattle.std.specs.Prelude.{pos}
use Rattle.std.specs.Char.{is_ascii_digit}
use Rattle.std.specs.Str.{all_ascii_digits}
use Rattle.std.proofs.lemmas.List.{drop_all}
use Rattle.std.proofs.Math.Seq.{drop-cons}
use Rattle.qs_expr_values.specs.Number.{in_range, integer_of}
use Rattle.qs_expr_values.specs.inner.Number.{value_behind}
use Rattle.qs_expr_values.proofs.Numbers.{no_sign, numeral_of, below, same_signed}

drop_step : (digits : List ℕ) (i : ℕ) → i < length digits → drop i digits ≡ slice_index digits i ∷ drop (i + 1) digits
drop_step digits i l = rw (add-one, drop-cons digits i 0)

pub step : (digits : List ℕ) (i value next : ℕ) → i < length digits → next ≡ value * 10 + (slice_index digits i - 48) → value_behind next (drop (i + 1) digits) ≡ value_behind value (drop i digits)
step digits i value next l e = ap (λ n. value_behind n (drop (i + 1) digits)) e ∙ sym (ap (value_behind value) (drop_step digits i l))

pub digit : (digits : List ℕ) (i : ℕ) → i < length digits → is_ascii_digit (slice_index digits i) ≡ true → all_ascii_digits (drop (i + 1) digits) ≡ all_ascii_digits (drop i digits)
digit digits i l d = sym (ap all_ascii_digits (drop_step digits i l) ∙ ap (λ b. b && all_ascii_digits (drop (i + 1) digits)) d)

pub last : (digits : List ℕ) (i value : ℕ) → (length digits == 0) ≡ false → length digits ≤ i → value < 2 ^ 64
    → value_behind value (drop i digits) ≡ value_behind 0 digits → all_ascii_digits (drop i digits) ≡ all_ascii_digits digits → integer_of digits ≡ Some (pos value)
unfolding integer_of
last digits i value some l h ev ed =
    let all : all_ascii_digits digits ≡ true = sym ed ∙ ap all_ascii_digits (drop_all i digits l) in
    let is : value_behind 0 digits ≡ value = sym ev ∙ ap (value_behind value) (drop_all i digits l) in
    ap in_range (no_sign digits all ∙ (sym (same_signed pos digits) ∙ (ap (λ b. if b then Some (pos (value_behind 0 digits)) else None) (numeral_of digits some ∙ all) ∙ ap (λ n. Some (pos n)) is)))
    ∙ ap (λ b. if b then Some (pos value) else None) (below value (2 ^ 127) (omega arith))
