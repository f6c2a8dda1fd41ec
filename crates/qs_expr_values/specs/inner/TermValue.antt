-- What a table of values keeps of a term: the value itself where it is a boolean or an integer of
-- 64 bits, and else its kind.
use Rattle.std.specs.Prelude.{ℕ, ◌^◌, Bool, nat_lt, if◌then◌else◌, ℤ, pos, negsuc}
use Rattle.qs_terms.specs.declared.term.Term.{Term}
use Rattle.qs_expr_values.specs.Values.{Worth, integer, boolean, text, other, worth}
use Rattle.qs_expr_values.specs.declared.term_value.TermValue.{TermValue}
use Rattle.qs_expr_values.specs.declared.term_value.TermValue.TheVariants as kept

-- the integers of signed 64 bits
abbrev pub is_of_64_bits : ℤ → Bool
is_of_64_bits (pos n) = nat_lt n (2 ^ 63)
is_of_64_bits (negsuc n) = nat_lt n (2 ^ 63)

-- an integer, or the mark of a wider one
abbrev pub integer_or_wide : ℤ → TermValue
integer_or_wide z = if is_of_64_bits z then kept.Integer z else kept.Wide

abbrev pub value_of_worth : Worth → TermValue
value_of_worth (integer z) = integer_or_wide z
value_of_worth (boolean b) = kept.Boolean b
value_of_worth (text s) = kept.Text
value_of_worth other = kept.Other

-- what is kept of a term
abbrev pub term_value : Term → TermValue
term_value t = value_of_worth (worth t)
