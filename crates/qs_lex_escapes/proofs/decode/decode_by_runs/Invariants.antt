-- What is written, and what is left with its escapes decoded, is the text with its escapes decoded.
use Rattle.std.proofs.Common.{◌≡◌, ◌++◌, length, string_bytes}
use denote.Shadow.{shadow}
use denote.Text.{Utf8}
use Rattle.qs_lex_escapes.specs.Decoded.{decoded}
use Rattle.qs_lex_escapes.specs.inner.Escape.{escape}
use Rattle.qs_lex_escapes.proofs.decode.decode_by_runs.Given as goal

abbrev pub invariant-loop-run : goal.invariant-loop-run
invariant-loop-run l = (string_bytes l.out ++ decoded (escape l.fn.kind) l.left ≡ decoded (escape l.fn.kind) l.fn.text) × shadow (Utf8 l.left)

abbrev pub decreases-loop-run : goal.decreases-loop-run
decreases-loop-run l = length l.left
