-- What is still to be read gives the number that is due.
use Rattle.std.proofs.Common.{◌≡◌, ◌-◌, ◌^◌, ◌<◌, min, drop}
use Rattle.qs_syntax_resolve.specs.inner.Names.{decimal}
use Rattle.qs_syntax_resolve.proofs.number.decimal.Given as goal

abbrev pub invariant-loop-byte : goal.invariant-loop-byte
invariant-loop-byte l =
    (min (decimal l.value (drop l.byte-index l.digits)) (2 ^ 64 - 1) ≡ min (decimal 0 l.fn.digits) (2 ^ 64 - 1))
    × (l.value < 2 ^ 64)
