-- What a fault of writing says.
use Rattle.std.specs.Prelude.{ℕ}
use Rattle.qs_nquads.specs.declared.output.WriteFault.{WriteFault}
use Rattle.qs_nquads.specs.declared.output.WriteFault.TheVariants.{Io, Memory}

-- the first where the device failed, of the count of the bytes that went out before; the second
-- where memory ran out
abbrev pub MatchFault : WriteFault → (ℕ → Type 0) → Type 0 → Type 0
MatchFault (Io written) P Q = P written
MatchFault Memory P Q = Q
