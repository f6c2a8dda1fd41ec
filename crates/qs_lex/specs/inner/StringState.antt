-- What is left of the table in each state of the scanner within strings.
use Rattle.std.specs.Prelude.{ℕ, suc, not, [], ◌∷◌}
use Rattle.qs_lex_regular.specs.Form.{Form, nothing, one, hexes, many, ◌⨾◌, ◌∣◌, maybe, char, echar}
use Rattle.qs_lex_regular.specs.Form.{uchar}
use Rattle.qs_lex_regular.specs.Character.{is_scalar, is_escaped, is_one_of}
use Rattle.qs_lex.specs.inner.Table.{Left}
use Rattle.qs_lex.specs.declared.token.Class.TheVariants as class
use Rattle.qs_lex.specs.declared.string_state.StringState.{StringState}
use Rattle.qs_lex.specs.declared.string_state.StringState.TheVariants as string

abbrev pub short_unit : ℕ → Form
short_unit q = echar ∣ uchar is_scalar ∣ one (λ c. not (is_one_of (q ∷ 92 ∷ 10 ∷ 13 ∷ []) c))

abbrev pub short_body : ℕ → Form
short_body q = many (short_unit q)

abbrev pub long_unit : ℕ → Form
long_unit q = echar ∣ uchar is_scalar ∣ one (λ c. not (is_one_of (q ∷ 92 ∷ []) c))

abbrev pub long_body : ℕ → Form
long_body q = many (maybe (char q ⨾ maybe (char q)) ⨾ long_unit q)

abbrev pub behind_backslash : Form
behind_backslash = one is_escaped ∣ char 117 ⨾ hexes 4 0 is_scalar ∣ char 85 ⨾ hexes 8 0 is_scalar

abbrev pub left_of_string : StringState → Left
left_of_string (string.Opened q) = (
  class.String,
  short_body q.mark ⨾ char q.mark
      ∣ char q.mark ⨾ char q.mark ⨾ long_body q.mark ⨾ char q.mark ⨾ char q.mark ⨾ char q.mark,
) ∷ []
left_of_string (string.Two q) = (
  class.String,
  nothing ∣ char q.mark ⨾ long_body q.mark ⨾ char q.mark ⨾ char q.mark ⨾ char
      q.mark,
) ∷ []
left_of_string (string.Short q) = (class.String, short_body q.mark ⨾ char q.mark) ∷ []
left_of_string (string.ShortBackslash q) =
    (class.String, (behind_backslash ⨾ short_body q.mark) ⨾ char q.mark) ∷ []
left_of_string (string.ShortHex q e) =
    (class.String, (hexes (suc e.after) e.value is_scalar ⨾ short_body q.mark) ⨾ char q.mark) ∷ []
left_of_string (string.Long q) =
    (class.String, long_body q.mark ⨾ char q.mark ⨾ char q.mark ⨾ char q.mark) ∷ []
left_of_string (string.LongOne q) = (
  class.String,
  ((maybe (char q.mark) ⨾ long_unit q.mark) ⨾ long_body q.mark) ⨾ char q.mark ⨾
      char q.mark ⨾ char q.mark ∣ char q.mark ⨾ char q.mark,
) ∷ []
left_of_string (string.LongTwo q) = (
  class.String,
  (long_unit q.mark ⨾ long_body q.mark) ⨾ char q.mark ⨾ char q.mark ⨾ char q.mark ∣
      char q.mark,
) ∷ []
left_of_string (string.LongBackslash q) =
    (class.String, (behind_backslash ⨾ long_body q.mark) ⨾ char q.mark ⨾ char q.mark ⨾ char q.mark)
    ∷ []
left_of_string (string.LongHex q e) = (
  class.String,
  (hexes (suc e.after) e.value is_scalar ⨾ long_body q.mark) ⨾ char q.mark ⨾ char
      q.mark ⨾ char q.mark,
) ∷ []
left_of_string string.Done = (class.String, nothing) ∷ []
