-- What the characters of a token denote.
use Rattle.std.specs.Prelude.{◌≡◌, ℕ, List, ◌++◌, Option}
use Rattle.std.specs.Str.{encode_utf8_all}
use Rattle.qs_lex_escapes.specs.Decoded.{decoded_after}
use Rattle.qs_lex_escapes.specs.declared.escape.Escape.{Escape}
use Rattle.qs_lex_escapes.specs.inner.Backslashes.{begins_behind}

-- Whatever comes after the characters x, an escape begins at each backslash in them, and decoded
-- they are the characters y.
pub record StandsFor (escape : List ℕ → Option Escape) (x y : List ℕ) : Type 0 where
  pub begins : (r : List ℕ) → begins_behind escape 0 (encode_utf8_all x ++ r) ≡ begins_behind escape
      0 r
  pub decodes : (r : List ℕ) → decoded_after escape 0 (encode_utf8_all x ++ r) ≡ encode_utf8_all y
      ++ decoded_after escape 0 r
