-- Definitions over those of `Meaning`, for proofs and the layers between.
use Rattle.std.specs.Prelude.{Bool, Option, ℤ, ◌*ℤ◌}
use Rattle.std.specs.Option.{option_map}
use Rattle.qs_expr_values.specs.Values.{boolean_term, integer_term}
use Rattle.qs_algebra_solutions.specs.Solution.{Solution}
use Rattle.qs_expr_meaning.specs.Calls.{Value}
use Rattle.qs_expr_meaning.specs.declared.expr.Addend.{Addend, fold-Addend}
use Rattle.qs_expr_meaning.specs.Meaning.{SignedValue, level, addend_level}

abbrev pub addend_meaning : Solution → Addend → SignedValue
addend_meaning m = fold-Addend Value SignedValue (level m) addend_level

abbrev pub boolean_value : Option Bool → Value
boolean_value x = option_map boolean_term x

abbrev pub integer_value : Option ℤ → Value
integer_value x = option_map integer_term x

abbrev pub times : ℤ → ℤ → ℤ
times a b = a *ℤ b
