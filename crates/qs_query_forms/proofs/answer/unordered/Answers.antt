use Rattle.qs_query_forms.proofs.AnyOrder.{part_after, part_listed, plainly_listed, rows_from_listed}
use Rattle.qs_query_forms.proofs.answer.unordered.Goals as goal

pub returns-then-asked : goal.returns-then-asked
returns-then-asked g c =
    rows_from_listed c.args.asked.now _ c.args.max_rows c.part_of.result c.enough_for_slice-most.result c.in_ok-rows.rows.items c.requires c.in_ok-rows.ensures (rw c.as_slice.ensures at c.enough_for_slice-most.ensures)
    (part_listed c.args.asked.now c.in_ok-rows.rows.items c.args.max_rows c.part_of.result c.if-asked.true c.part_of.ensures)

pub returns : goal.returns
returns g c =
    let after = c.in_ok-rows-2.ensures in
    let listed = plainly_listed c.args.asked.now c.enough_for_slice-most.result after.0 _ c.if-asked.false after.1 in
    rows_from_listed c.args.asked.now _ c.args.max_rows c.first_of.result c.enough_for_slice-most.result after.0 c.requires listed (rw c.as_slice.ensures at c.enough_for_slice-most.ensures)
    (part_after c.args.asked.now after.0 c.in_ok-rows-2.rows.items c.args.max_rows c.first_of.result c.if-asked.false (rw c.as_slice-columns.ensures at after.2) c.first_of.ensures)
