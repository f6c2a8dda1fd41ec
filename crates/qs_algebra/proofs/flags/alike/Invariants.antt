use Rattle.std.proofs.Common.{◌≡◌}
use Rattle.qs_algebra.specs.inner.Flags.{flags_from}
use Rattle.qs_algebra.proofs.flags.alike.Given as goal

abbrev pub invariant-loop : goal.invariant-loop
invariant-loop l = l.flags.items ≡ flags_from (λ v. l.flag) 0 l.counter
