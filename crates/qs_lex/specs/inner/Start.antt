-- What is left of the table after a token's first character.
use Rattle.std.specs.Prelude.{ℕ}
use Rattle.qs_lex.specs.Table.{table}
use Rattle.qs_lex.specs.inner.Table.{Left}
use Rattle.qs_lex_regular.specs.inner.Best.{advance}

-- the classes whose tokens may begin with the character
unfoldable pub begun : ℕ → Left
begun c = advance table c
