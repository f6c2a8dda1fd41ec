-- What is left of the table in each state of the scanner within marks.
use Rattle.std.specs.Prelude.{[], ◌∷◌}
use Rattle.qs_lex_regular.specs.Form.{nothing, ◌∣◌, char}
use Rattle.qs_lex.specs.inner.Table.{Left}
use Rattle.qs_lex.specs.declared.token.Class.TheVariants as class
use Rattle.qs_lex.specs.declared.mark_state.MarkState.{MarkState}
use Rattle.qs_lex.specs.declared.mark_state.MarkState.TheVariants as mark

abbrev pub left_of_mark : MarkState → Left
left_of_mark mark.Bar = (class.Mark, nothing ∣ char 124) ∷ []
left_of_mark mark.Caret = (class.Mark, nothing ∣ char 94) ∷ []
left_of_mark mark.Equal = (class.Mark, nothing ∣ char 61) ∷ []
left_of_mark mark.Ampersand = (class.Mark, char 38) ∷ []
left_of_mark mark.Done = (class.Mark, nothing) ∷ []
