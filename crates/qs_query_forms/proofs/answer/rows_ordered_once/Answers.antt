use Rattle.qs_query_forms.proofs.AnyOrder.{distinct_rows}
use Rattle.qs_query_forms.proofs.answer.rows_ordered_once.Goals as goal

pub returns : goal.returns
returns g c =
    distinct_rows c.args.asked.now _ c.in_ok-rows.rows.items c.in_ok-rows-2.rows.items c.args.max_rows c.part_of.result c.args.conditions.now c.needed_count.result c.keys_are_ordered.ensures c.requires.distinct c.requires.placed
    (rw c.as_slice-columns.ensures at c.in_ok-rows.ensures) c.in_ok-rows-2.ensures c.needed_count.ensures c.part_of.ensures
