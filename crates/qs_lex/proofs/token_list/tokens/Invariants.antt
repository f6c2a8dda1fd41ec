use Rattle.std.proofs.Common.{◌≡◌, length, map}
use Rattle.qs_lex.specs.inner.Lexes.{lexeme}
use Rattle.qs_lex.specs.inner.Unread.{HasRead}
use Rattle.qs_lex.proofs.token_list.tokens.Given as goal

abbrev pub invariant-tokens : goal.invariant-tokens
invariant-tokens l = record {
  bytes : l.lexer.bytes ≡ l.fn.text;
  read : HasRead (map lexeme l.tokens.items) l.lexer;
}

abbrev pub decreases-tokens : goal.decreases-tokens
decreases-tokens l = length l.lexer.rest
