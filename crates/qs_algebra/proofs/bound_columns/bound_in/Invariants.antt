use Rattle.std.proofs.Common.{◌≡◌}
use Rattle.std.specs.Option.{is_some}
use Rattle.qs_algebra_solutions.specs.Solution.{term_at}
use Rattle.qs_algebra.specs.inner.Flags.{flags_from}
use Rattle.qs_algebra.proofs.bound_columns.bound_in.Given as goal

abbrev pub invariant-loop-variable : goal.invariant-loop-variable
invariant-loop-variable l = l.flags.items ≡ flags_from (λ v. is_some (term_at l.row v)) 0 l.variable
