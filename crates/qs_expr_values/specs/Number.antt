-- Integers as texts (XML Schema 1.1 part 2, 3.4.13): the whole number that a form denotes, and the
-- form that a number is written in.
use Rattle.std.specs.Prelude.{ℕ, ◌^◌, ◌==◌, Bool, ◌&&◌, nat_lt, List, [], ◌∷◌}
use Rattle.std.specs.Prelude.{Option, Some, None, if◌then◌else◌, ℤ, pos, negsuc, neg_ℤ}
use Rattle.std.specs.Str.{all_ascii_digits}
use Rattle.std.specs.Option.{option_and_then}
use Rattle.std.specs.Str.Parse.{digits_value}
use Rattle.std.specs.Fmt.{signed_decimal}
use Rattle.qs_expr_values.specs.Text.{is_not_empty}

-- one or more digits
abbrev pub is_numeral : List ℕ → Bool
is_numeral digits = is_not_empty digits && all_ascii_digits digits

abbrev pub signed : (ℕ → ℤ) → List ℕ → Option ℤ
signed sign digits = if is_numeral digits then Some (sign (digits_value 10 digits)) else None

-- an optional sign, and digits; leading zeros change nothing, and `-0` is 0
abbrev pub whole_number : List ℕ → Option ℤ
whole_number [] = None
whole_number (c ∷ cs) = if c == 43 then signed pos cs
    else (if c == 45 then signed (λ n. neg_ℤ (pos n)) cs else signed pos (c ∷ cs))

-- the range of integers: that of signed 128 bits. It stands here alone; a computed number out of it
-- is an error
abbrev pub is_in_range : ℤ → Bool
is_in_range (pos n) = nat_lt n (2 ^ 127)
is_in_range (negsuc n) = nat_lt n (2 ^ 127)

-- a number, unless it is out of the range
abbrev pub in_range : Option ℤ → Option ℤ
in_range = option_and_then (λ z. if is_in_range z then Some z else None)

-- the value of a form
unfoldable pub integer_of : List ℕ → Option ℤ
integer_of form = in_range (whole_number form)

-- the canonical form: no plus sign, no leading zeros, and 0 is `0`
unfoldable pub canonical : ℤ → List ℕ
canonical z = signed_decimal z
