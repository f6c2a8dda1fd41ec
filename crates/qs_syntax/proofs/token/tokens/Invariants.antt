use Rattle.std.proofs.Common.{◌≡◌, List, length, map}
use Rattle.qs_lex.specs.Lexes.{Lexeme}
use Rattle.qs_lex.specs.inner.Unread.{HasRead}
use Rattle.qs_syntax.specs.Kinds.{token_of}
use Rattle.qs_syntax.proofs.token.tokens.Given as goal

abbrev pub invariant-tokens : goal.invariant-tokens
invariant-tokens l = record {
  bytes : l.lexer.bytes ≡ l.fn.text;
  read : (ts : List Lexeme) × HasRead ts l.lexer × (l.tokens.items ≡ map token_of ts);
}

abbrev pub decreases-tokens : goal.decreases-tokens
decreases-tokens l = length l.lexer.rest
