-- What is left of the table in each state of the scanner within names, words, blank node labels,
-- variables and language tags.
use Rattle.std.specs.Prelude.{[], ◌∷◌, ◌||◌, ◌==◌}
use Rattle.qs_lex_regular.specs.Form.{Form, nothing, one, many, ◌⨾◌, ◌∣◌, maybe, plus, char}
use Rattle.qs_lex_regular.specs.Character.{is_hex, is_pn_chars_u, is_digit, is_pn_chars}
use Rattle.qs_lex_regular.specs.Character.{is_mark_in_name, is_letter, is_letter_or_digit}
use Rattle.qs_lex.specs.Table.{is_word_char, is_escapable, local_first, local_middle, local_last}
use Rattle.qs_lex.specs.inner.Table.{Left}
use Rattle.qs_lex.specs.declared.token.Class.TheVariants as class
use Rattle.qs_lex.specs.declared.name_state.NameState.{NameState}
use Rattle.qs_lex.specs.declared.name_state.NameState.TheVariants as name

abbrev pub inner : Form
inner = many (one (λ c. is_pn_chars c || c == 46)) ⨾ one is_pn_chars

abbrev pub local_rest : Form
local_rest = many local_middle ⨾ local_last

abbrev pub named : Form → Left
named p =
    (class.PnameNs, p ⨾ char 58) ∷ (class.PnameLn, (p ⨾ char 58) ⨾ local_first ⨾ maybe local_rest)
    ∷ []

abbrev pub tag_parts : Form
tag_parts = many (char 45 ⨾ plus (one is_letter_or_digit))

abbrev pub left_of_name : NameState → Left
left_of_name name.Plain = (class.Word, many (one is_word_char)) ∷ []
left_of_name name.Word =
    (class.PnameNs, maybe inner ⨾ char 58)
    ∷ (class.PnameLn, (maybe inner ⨾ char 58) ⨾ local_first ⨾ maybe local_rest)
    ∷ (class.Word, many (one is_word_char)) ∷ []
left_of_name name.Prefix = named (maybe inner)
left_of_name name.PrefixDot = named inner
left_of_name name.Colon =
    (class.PnameNs, nothing) ∷ (class.PnameLn, local_first ⨾ maybe local_rest) ∷ []
left_of_name name.FirstPercent = (class.PnameLn, (one is_hex ⨾ one is_hex) ⨾ maybe local_rest) ∷ []
left_of_name name.FirstHex = (class.PnameLn, one is_hex ⨾ maybe local_rest) ∷ []
left_of_name name.FirstBackslash = (class.PnameLn, one is_escapable ⨾ maybe local_rest) ∷ []
left_of_name name.Local = (class.PnameLn, maybe local_rest) ∷ []
left_of_name name.LocalDot = (class.PnameLn, local_rest) ∷ []
left_of_name name.Percent = (
  class.PnameLn,
  ((one is_hex ⨾ one is_hex) ⨾ many local_middle) ⨾ local_last ∣ one is_hex ⨾ one
      is_hex,
) ∷ []
left_of_name name.Hex =
    (class.PnameLn, (one is_hex ⨾ many local_middle) ⨾ local_last ∣ one is_hex) ∷ []
left_of_name name.Backslash =
    (class.PnameLn, (one is_escapable ⨾ many local_middle) ⨾ local_last ∣ one is_escapable) ∷ []
left_of_name name.Underscore =
    (class.BlankLabel, char 58 ⨾ one (λ c. is_pn_chars_u c || is_digit c) ⨾ maybe inner) ∷ []
left_of_name name.UnderscoreColon =
    (class.BlankLabel, one (λ c. is_pn_chars_u c || is_digit c) ⨾ maybe inner) ∷ []
left_of_name name.Blank = (class.BlankLabel, maybe inner) ∷ []
left_of_name name.BlankDot = (class.BlankLabel, inner) ∷ []
left_of_name name.Question = (
  class.Var,
  one (λ c. is_pn_chars_u c || is_digit c) ⨾ many
      (one (λ c. is_pn_chars_u c || is_digit c || is_mark_in_name c)),
) ∷ (class.Mark, nothing)
    ∷ []
left_of_name name.Dollar = (
  class.Var,
  one (λ c. is_pn_chars_u c || is_digit c) ⨾ many
      (one (λ c. is_pn_chars_u c || is_digit c || is_mark_in_name c)),
) ∷ []
left_of_name name.Variable =
    (class.Var, many (one (λ c. is_pn_chars_u c || is_digit c || is_mark_in_name c))) ∷ []
left_of_name name.At = (class.LangTag, plus (one is_letter) ⨾ tag_parts) ∷ []
left_of_name name.Tag = (class.LangTag, many (one is_letter) ⨾ tag_parts) ∷ []
left_of_name name.TagDash = (class.LangTag, plus (one is_letter_or_digit) ⨾ tag_parts) ∷ []
left_of_name name.TagPart = (class.LangTag, many (one is_letter_or_digit) ⨾ tag_parts) ∷ []
