-- Escapes that name a character.
use Rattle.std.proofs.Common.{◌≡◌, ℕ, true, false, Some, None, arith}
use Rattle.std.proofs.lemmas.Bool.Decides.{nat_tests}
use Rattle.std.specs.Char.{InScalarRange, OutOfScalarRange}
use Rattle.qs_lex_regular.specs.Character.{is_scalar}
use Rattle.qs_lex_escapes.specs.Escape.{escape_of}

scalar : (code : ℕ) → InScalarRange code → is_scalar code ≡ true
unfolding is_scalar
scalar code h = grind (arith, nat_tests)

no_scalar : (code : ℕ) → OutOfScalarRange code → is_scalar code ≡ false
unfolding is_scalar
no_scalar code h = grind (arith, nat_tests)

pub named : (length code : ℕ) → InScalarRange code → escape_of length (Some code) ≡ Some (record { character = code; length = length })
named length code h = rw (scalar code h)

pub unnamed : (length code : ℕ) → OutOfScalarRange code → escape_of length (Some code) ≡ None
unnamed length code h = rw (no_scalar code h)
