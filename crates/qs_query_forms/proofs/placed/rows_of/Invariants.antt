use Rattle.std.proofs.Common.{◌≡◌, ◌++◌, length}
use Rattle.std.specs.Prelude.{reverse}
use Rattle.qs_query_order.specs.inner.Keyed.{solutions_of}
use Rattle.qs_query_forms.specs.inner.Placed.{itself}
use Rattle.qs_query_forms.proofs.placed.rows_of.Given as goal

abbrev pub invariant-loop-one : goal.invariant-loop-one
invariant-loop-one l = solutions_of itself l.fn.kept.items ≡ solutions_of itself l.kept.items ++ reverse l.rows.items

abbrev pub decreases-loop-one : goal.decreases-loop-one
decreases-loop-one l = length l.kept.items
