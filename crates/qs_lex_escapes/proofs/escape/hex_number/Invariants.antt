-- What is still to be read gives the number that is due.
use Rattle.std.proofs.Common.{◌≡◌, ◌+◌, drop}
use Rattle.qs_lex_escapes.specs.Escape.{hex_number}
use Rattle.qs_lex_escapes.proofs.escape.hex_number.Given as goal

abbrev pub invariant-loop-byte : goal.invariant-loop-byte
invariant-loop-byte l = hex_number (l.digits.after + 1) l.digits.value (drop l.byte-index l.bytes) ≡ hex_number (l.fn.digits.after + 1) l.fn.digits.value l.fn.bytes
