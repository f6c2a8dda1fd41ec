use Rattle.std.proofs.Common.{◌≡◌, map, take}
use Rattle.std.specs.Option.{option_copied}
use Rattle.qs_expr.specs.inner.Cell.{row_solution}
use Rattle.qs_query_order.specs.inner.Keyed.{solutions_of}
use Rattle.qs_query_solutions.specs.inner.After.{projected_if}
use Rattle.qs_query_solutions.proofs.ordered.made_rows.Given as goal

abbrev pub invariant-loop-one : goal.invariant-loop-one
invariant-loop-one g l = l.rows.items ≡ map (projected_if (option_copied l.columns)) (solutions_of (row_solution l.op.known l.op.table) (take l.one-index l.kept))
