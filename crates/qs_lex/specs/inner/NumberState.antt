-- What is left of the table in each state of the scanner within numbers.
use Rattle.std.specs.Prelude.{[], ◌∷◌}
use Rattle.qs_lex_regular.specs.Form.{nothing, many, ◌⨾◌, ◌∣◌, maybe, plus}
use Rattle.qs_lex.specs.Table.{digit, sign, exponent}
use Rattle.qs_lex.specs.inner.Table.{dot}
use Rattle.qs_lex.specs.inner.Table.{Left}
use Rattle.qs_lex.specs.declared.token.Class.TheVariants as class
use Rattle.qs_lex.specs.declared.number_state.NumberState.{NumberState}
use Rattle.qs_lex.specs.declared.number_state.NumberState.TheVariants as number

abbrev pub left_of_number : NumberState → Left
left_of_number number.Sign =
    (class.Signed, plus digit) ∷ (class.Decimal, many digit ⨾ dot ⨾ plus digit)
    ∷ (
      class.Double,
      plus digit ⨾ dot ⨾ many digit ⨾ exponent ∣ dot ⨾ plus digit ⨾ exponent ∣ plus
          digit ⨾ exponent,
    )
    ∷ (class.Mark, nothing) ∷ []
left_of_number number.Whole =
    (class.Integer, many digit) ∷ (class.Decimal, many digit ⨾ dot ⨾ plus digit)
    ∷ (class.Double, many digit ⨾ dot ⨾ many digit ⨾ exponent ∣ many digit ⨾ exponent) ∷ []
left_of_number number.SignedWhole =
    (class.Signed, many digit) ∷ (class.Decimal, many digit ⨾ dot ⨾ plus digit)
    ∷ (class.Double, many digit ⨾ dot ⨾ many digit ⨾ exponent ∣ many digit ⨾ exponent) ∷ []
left_of_number number.Point = (class.Decimal, plus digit) ∷ (class.Double, plus digit ⨾ exponent)
    ∷ (class.Mark, nothing) ∷ []
left_of_number number.SignedPoint =
    (class.Decimal, plus digit) ∷ (class.Double, plus digit ⨾ exponent) ∷ []
left_of_number number.WholePoint =
    (class.Decimal, plus digit) ∷ (class.Double, many digit ⨾ exponent) ∷ []
left_of_number number.Fraction =
    (class.Decimal, many digit) ∷ (class.Double, many digit ⨾ exponent) ∷ []
left_of_number number.Exponent = (class.Double, maybe sign ⨾ plus digit) ∷ []
left_of_number number.ExponentSign = (class.Double, plus digit) ∷ []
left_of_number number.Power = (class.Double, many digit) ∷ []
