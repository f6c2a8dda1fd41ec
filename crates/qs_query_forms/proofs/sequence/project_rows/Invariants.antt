use Rattle.std.proofs.Common.{◌≡◌, map, take}
use Rattle.qs_algebra_solutions.specs.Solution.{projected}
use Rattle.qs_base.specs.inner.Lent.{lent}
use Rattle.qs_query_forms.proofs.sequence.project_rows.Given as goal

abbrev pub invariant-loop-row : goal.invariant-loop-row
invariant-loop-row l = l.all.items ≡ map (projected l.columns) (lent (take l.row-index l.rows))
