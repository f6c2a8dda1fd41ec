use Rattle.std.proofs.Common.{◌≡◌, take}
use Rattle.std.specs.List.{list_all}
use Rattle.std.specs.Option.{is_some}
use Rattle.qs_algebra_solutions.specs.Solution.{term_at, binding}
use Rattle.qs_algebra.specs.inner.Flags.{flags_from}
use Rattle.qs_algebra.proofs.bound_columns.bound_by_all.Given as goal

abbrev pub invariant-loop-row : goal.invariant-loop-row
invariant-loop-row l = l.flags.items ≡ flags_from (λ v. list_all (λ row. is_some (term_at (binding l.width l.variables row) v)) (take l.row-index l.rows)) 0 l.width
