-- What is left of the table in each state of the scanner within IRIs.
use Rattle.std.specs.Prelude.{suc, [], ◌∷◌}
use Rattle.qs_lex_regular.specs.Form.{Form, nothing, one, hexes, many, ◌⨾◌, ◌∣◌, char}
use Rattle.qs_lex_regular.specs.Character.{is_iri_char, is_iri_scalar}
use Rattle.qs_lex.specs.inner.Table.{Left}
use Rattle.qs_lex.specs.declared.token.Class.TheVariants as class
use Rattle.qs_lex.specs.declared.iri_state.IriState.{IriState}
use Rattle.qs_lex.specs.declared.iri_state.IriState.TheVariants as iri

abbrev pub iri_body : Form
iri_body =
    many
    (one is_iri_char ∣ char 92 ⨾
    (char 117 ⨾ hexes 4 0 is_iri_scalar ∣ char 85 ⨾ hexes 8 0 is_iri_scalar))

abbrev pub left_of_iri : IriState → Left
left_of_iri iri.Less = (class.IriRef, iri_body ⨾ char 62) ∷ (class.Mark, nothing ∣ char 61) ∷ []
left_of_iri iri.LessEqual = (class.IriRef, iri_body ⨾ char 62) ∷ (class.Mark, nothing) ∷ []
left_of_iri iri.Body = (class.IriRef, iri_body ⨾ char 62) ∷ []
left_of_iri iri.Backslash = (
  class.IriRef,
  ((char 117 ⨾ hexes 4 0 is_iri_scalar ∣ char 85 ⨾ hexes 8 0 is_iri_scalar) ⨾
      iri_body) ⨾ char 62,
) ∷ []
left_of_iri (iri.Hex e) =
    (class.IriRef, (hexes (suc e.after) e.value is_iri_scalar ⨾ iri_body) ⨾ char 62) ∷ []
left_of_iri iri.Done = (class.IriRef, nothing) ∷ []
