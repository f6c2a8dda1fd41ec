-- Definitions over those of `Table`, for proofs and the layers between.
use Rattle.std.specs.Prelude.{ℕ, List}
use Rattle.qs_lex_regular.specs.Character.{is_base}
use Rattle.qs_lex_regular.specs.Form.{Form, one, ◌⨾◌, literal}
use Rattle.qs_lex_regular.specs.Longest.{Table, IsFirst}
use Rattle.qs_lex.specs.declared.token.Class.{Class}
use Rattle.qs_lex.specs.Table.{table, name_rest}

-- what is left of the table after some characters
abbrev pub Left : Type 0
Left = Table Class

-- these characters are a token of the class: it is the first of the table that they spell
abbrev pub IsToken : Class → List ℕ → Type 0
IsToken k x = IsFirst table k x

-- BASE, then optionally (CHARS or `.`)* CHARS (PN_PREFIX, [168])
abbrev pub prefix : Form
prefix = one is_base ⨾ name_rest

abbrev pub dot : Form
dot = literal "."
