-- What is still to be read gives the value of them all, and decides whether all are digits.
use Rattle.std.proofs.Common.{◌≡◌, ◌^◌, ◌<◌, drop}
use Rattle.std.specs.Str.{all_ascii_digits}
use Rattle.qs_expr_values.specs.inner.Number.{value_behind}
use Rattle.qs_expr_values.proofs.number.of_digits.Given as goal

abbrev pub invariant-loop-byte : goal.invariant-loop-byte
invariant-loop-byte l =
    (value_behind l.value (drop l.byte-index l.digits) ≡ value_behind 0 l.fn.digits)
    × (all_ascii_digits (drop l.byte-index l.digits) ≡ all_ascii_digits l.fn.digits)
    × (l.value < 2 ^ 64)
