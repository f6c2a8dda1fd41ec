use Rattle.std.proofs.Common.{◌≡◌, map, take}
use Rattle.qs_terms.specs.Bag.{once}
use Rattle.qs_algebra_solutions.specs.Solution.{projected, same_solution}
use Rattle.qs_base.specs.inner.Lent.{lent}
use Rattle.qs_algebra_solutions.proofs.Same.{same_solution-Decides}
use Rattle.qs_query_forms.proofs.Cells.{read, order, reads}
use Rattle.qs_algebra_solutions.proofs.KnownKeys.{Knows}
use Rattle.qs_query_forms.proofs.distinct.firsts.Given as goal

abbrev pub invariant-loop-row : goal.invariant-loop-row
invariant-loop-row l = record {
  kept : map (projected l.columns) (lent l.firsts.items) ≡ once same_solution (map (projected l.columns) (lent (take l.row-index l.rows)));
  known : Knows read same_solution same_solution-Decides order reads l.known.keys (map (projected l.columns) (lent l.firsts.items));
}
