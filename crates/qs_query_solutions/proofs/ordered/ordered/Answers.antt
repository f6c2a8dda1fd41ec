use Rattle.std.proofs.Common.{map, drop, ap, subst, sym, ◌∙◌}
use Rattle.std.specs.Option.{option_copied}
use Rattle.qs_expr.specs.inner.Cell.{row_solution}
use Rattle.qs_query_order.specs.inner.Keyed.{solutions_of}
use Rattle.qs_query_solutions.specs.inner.After.{projected_if}
use Rattle.qs_query_solutions.specs.inner.SoFar.{Fit}
use Rattle.qs_query_solutions.proofs.InOrder.{part_fits, part_made, rest_fits}
use Rattle.qs_query_solutions.proofs.ordered.ordered.Goals as goal

pub made_rows-requires : goal.made_rows-requires
made_rows-requires g c =
    let known = c.collect.new.op.known in
    let table = c.collect.new.op.table in
    let cs = c.args.part.conditions.now in
    let new = c.put_in_order.new.kept.items in
    subst (Fit known table) (sym (c.after.ensures ∙ ap (drop c.args.part.offset) c.as_slice.ensures.value))
    (rest_fits known cs c.args.part.count table c.args.part.offset new (part_fits known cs c.args.part.count table c.in_ok-kept.kept.items new c.put_in_order.ensures.part c.in_ok-kept.ensures.fits))

pub returns : goal.returns
returns g c =
    let known = c.collect.new.op.known in
    let table = c.collect.new.op.table in
    let new = c.put_in_order.new.kept.items in
    part_made c.args.part.conditions.now (option_copied c.args.part.columns) c.args.part.offset c.args.part.count c.args.part.most c.args.op.now.rows known table c.in_ok-kept.kept.items new c.in_ok-rows.rows.items
    (rw c.size_of-count.ensures at c.in_ok-kept.ensures.seen) (rw c.size_of-count.ensures at c.put_in_order.ensures.first)
    (c.in_ok-rows.ensures ∙ ap (λ l. map (projected_if (option_copied c.args.part.columns)) (solutions_of (row_solution known table) l)) (c.after.ensures ∙ ap (drop c.args.part.offset) c.as_slice.ensures.value))
