use Rattle.std.proofs.Common.{◌≡◌, ◌||◌}
use Rattle.qs_algebra.specs.inner.Flags.{flags_from}
use Rattle.qs_algebra.specs.inner.Flags.{flag_at}
use Rattle.qs_algebra.proofs.flags.either.Given as goal

abbrev pub invariant-loop-variable : goal.invariant-loop-variable
invariant-loop-variable l = l.flags.items ≡ flags_from (λ v. flag_at l.left v || flag_at l.right v) 0 l.variable
