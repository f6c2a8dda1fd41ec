-- Definitions over those of `Lexes`, for proofs and the layers between.
use Rattle.std.specs.Prelude.{ℕ, List}
use Rattle.qs_lex_regular.specs.Longest.{HasNoFront}
use Rattle.qs_lex.specs.Table.{table}
use Rattle.qs_lex.specs.declared.token.Token.{Token}
use Rattle.qs_lex.specs.Lexes.{Lexeme}

-- what contracts see of a token
abbrev pub lexeme : Token → Lexeme
lexeme t = record { class = t.class; place = t.place; text = t.text.now }

-- no front is a token
abbrev pub HasNoToken : List ℕ → Type 0
HasNoToken cs = HasNoFront table cs
