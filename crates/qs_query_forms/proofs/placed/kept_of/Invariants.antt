use Rattle.std.proofs.Common.{List, ◌++◌, length}
use Rattle.std.specs.List.{All}
use Rattle.qs_terms.specs.Bag.{SameBag}
use Rattle.qs_algebra_solutions.specs.Solution.{Solution}
use Rattle.qs_query_order.specs.inner.Keyed.{solutions_of, AreInFrontIf, AreKeptIf, IsKeyed}
use Rattle.qs_query_forms.specs.inner.Placed.{itself}
use Rattle.qs_query_forms.proofs.placed.kept_of.Given as goal

abbrev pub invariant-loop-row : goal.invariant-loop-row
invariant-loop-row l = record {
  front : AreInFrontIf l.conditions l.count l.kept.items;
  keyed : All (IsKeyed itself l.conditions) l.kept.items;
  kept : (seen : List Solution) × SameBag l.fn.rows.items (seen ++ l.rows.items) × AreKeptIf l.conditions l.count seen (solutions_of itself l.kept.items);
}

abbrev pub decreases-loop-row : goal.decreases-loop-row
decreases-loop-row l = length l.rows.items
