-- A text whose tokens are read one after another.
use Rattle.std.specs.Prelude.{ℕ, List, [], ◌∷◌, ◌++◌, Option, Some, None, length}
use Rattle.std.specs.Str.{chars}
use Rattle.qs_lex.specs.Lexes.{Lexeme, Reads, Lexes}
use Rattle.qs_lex.specs.inner.Lexes.{lexeme}
use Rattle.qs_lex.specs.declared.token.Token.{Token}

-- the whole text, and the bytes that are left
pub record Unread : Type 0 where
  pub bytes : List ℕ
  pub rest : List ℕ

-- a lexer has handed out these tokens of its text, and has come after the last of them
abbrev pub HasRead : List Lexeme → Unread → Type 0
HasRead ts u = Reads (length u.bytes) (chars u.bytes) ts (chars u.rest)

-- the next token was handed out, or the text has ended
abbrev pub HasComeTo : List Lexeme → Option Token → Unread → Type 0
HasComeTo ts (Some t) u = HasRead (ts ++ lexeme t ∷ []) u
HasComeTo ts None u = HasRead ts u × Lexes u.bytes ts
