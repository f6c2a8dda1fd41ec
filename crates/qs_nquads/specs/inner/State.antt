-- What is left of the table in each state of the scanner.
use Rattle.std.specs.Prelude.{ℕ, suc, [], ◌∷◌, Bool, ◌||◌, ◌==◌}
use Rattle.qs_lex_regular.specs.Form.{Form, nothing, one, hexes, many, ◌⨾◌, ◌∣◌, maybe, plus, char}
use Rattle.qs_lex_regular.specs.Character.{is_escaped, is_letter, is_letter_or_digit, is_scalar}
use Rattle.qs_lex_regular.specs.Longest.{Table}
use Rattle.qs_lex_regular.specs.inner.Best.{advance}
use Rattle.qs_nquads.specs.Table.{table, iri_body, string_body}
use Rattle.qs_nquads.specs.Table.{is_label_start, is_label_char}
use Rattle.qs_nquads.specs.declared.class.Class.{Class}
use Rattle.qs_nquads.specs.declared.class.Class.TheVariants as class
use Rattle.qs_nquads.specs.declared.state.State.{State}
use Rattle.qs_nquads.specs.declared.state.State.TheVariants as state

-- what a label holds but ends with, or a dot
abbrev pub is_label_inner : ℕ → Bool
is_label_inner c = is_label_char c || c == 46

-- what is left of the table after some characters
abbrev pub Left : Type 0
Left = Table Class

-- the classes whose fronts may begin with the character
unfoldable pub begun : ℕ → Left
begun c = advance table c

-- after the backslash of a UCHAR
abbrev pub codepoint : Form
codepoint = char 117 ⨾ hexes 4 0 is_scalar ∣ char 85 ⨾ hexes 8 0 is_scalar

-- after the backslash of an ECHAR or a UCHAR
abbrev pub escape : Form
escape = one is_escaped ∣ codepoint

-- within an IRI, after a part of an escape of which this is left
abbrev pub in_iri : Form → Left
in_iri part = (class.Iri, (part ⨾ iri_body) ⨾ char 62) ∷ (class.Open, part ⨾ iri_body)
    ∷ (class.Broken, (part ⨾ iri_body) ⨾ char 92) ∷ []

-- the same of a string
abbrev pub in_string : Form → Left
in_string part = (class.String, (part ⨾ string_body) ⨾ char 34) ∷ (class.Open, part ⨾ string_body)
    ∷ (class.Broken, (part ⨾ string_body) ⨾ char 92) ∷ []

abbrev pub tag_parts : Form
tag_parts = many (char 45 ⨾ plus (one is_letter_or_digit))

abbrev pub inner : Form
inner = many (one is_label_inner) ⨾ one is_label_char

abbrev pub left : State → Left
left state.Iri = (class.Iri, iri_body ⨾ char 62) ∷ (class.Open, iri_body)
    ∷ (class.Broken, iri_body ⨾ char 92) ∷ []
left state.IriBackslash =
    (class.Iri, (codepoint ⨾ iri_body) ⨾ char 62) ∷ (class.Open, codepoint ⨾ iri_body)
    ∷ (class.Broken, (codepoint ⨾ iri_body) ⨾ char 92 ∣ nothing) ∷ []
left (state.IriHex e) = in_iri (hexes (suc e.after) e.value is_scalar)
left state.IriDone = (class.Iri, nothing) ∷ []
left state.String = (class.String, string_body ⨾ char 34) ∷ (class.Open, string_body)
    ∷ (class.Broken, string_body ⨾ char 92) ∷ []
left state.StringBackslash =
    (class.String, (escape ⨾ string_body) ⨾ char 34) ∷ (class.Open, escape ⨾ string_body)
    ∷ (class.Broken, (escape ⨾ string_body) ⨾ char 92 ∣ nothing) ∷ []
left (state.StringHex e) = in_string (hexes (suc e.after) e.value is_scalar)
left state.StringDone = (class.String, nothing) ∷ []
left state.At = (class.Tag, plus (one is_letter) ⨾ tag_parts) ∷ []
left state.Tag = (class.Tag, many (one is_letter) ⨾ tag_parts) ∷ []
left state.TagDash = (class.Tag, plus (one is_letter_or_digit) ⨾ tag_parts) ∷ []
left state.TagPart = (class.Tag, many (one is_letter_or_digit) ⨾ tag_parts) ∷ []
left state.Underscore = (class.Label, char 58 ⨾ one is_label_start ⨾ maybe inner) ∷ []
left state.UnderscoreColon = (class.Label, one is_label_start ⨾ maybe inner) ∷ []
left state.Label = (class.Label, maybe inner) ∷ []
left state.LabelDot = (class.Label, inner) ∷ []
left state.Caret = (class.Carets, char 94) ∷ []
left state.Carets = (class.Carets, nothing) ∷ []
left state.Dot = (class.Dot, nothing) ∷ []
left state.LineEnd = (class.LineEnd, nothing) ∷ []
