-- What is written, and what is left without its backslashes, is the whole.
use Rattle.std.proofs.Common.{◌≡◌, ◌++◌, length, string_bytes}
use denote.Shadow.{shadow}
use denote.Text.{Utf8}
use Rattle.qs_lex_escapes.specs.Decoded.{unescaped}
use Rattle.qs_lex_escapes.proofs.decode.join.Given as goal

abbrev pub invariant-loop-run : goal.invariant-loop-run
invariant-loop-run l = (string_bytes l.out ++ unescaped l.left ≡ l.fn.front ++ unescaped l.fn.local) × shadow (Utf8 l.left)

abbrev pub decreases-loop-run : goal.decreases-loop-run
decreases-loop-run l = length l.left
