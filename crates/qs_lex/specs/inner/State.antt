-- What is left of the forms in each state of the scanner.
use Rattle.qs_lex.specs.inner.Table.{Left}
use Rattle.qs_lex.specs.inner.IriState.{left_of_iri}
use Rattle.qs_lex.specs.inner.MarkState.{left_of_mark}
use Rattle.qs_lex.specs.inner.NameState.{left_of_name}
use Rattle.qs_lex.specs.inner.NumberState.{left_of_number}
use Rattle.qs_lex.specs.inner.StringState.{left_of_string}
use Rattle.qs_lex.specs.declared.state.State.{State}
use Rattle.qs_lex.specs.declared.state.State.TheVariants as state

-- the classes that are still possible, each with what is left of its form
abbrev pub left : State → Left
left (state.Iri s) = left_of_iri s
left (state.Mark s) = left_of_mark s
left (state.Name s) = left_of_name s
left (state.Number s) = left_of_number s
left (state.String s) = left_of_string s
