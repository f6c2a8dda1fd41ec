use Rattle.qs_query_forms.proofs.AnyOrder.{ordered_rows}
use Rattle.qs_query_forms.proofs.answer.ordered.Goals as goal

pub returns : goal.returns
returns g c =
    ordered_rows c.args.asked.now _ c.in_ok-rows.rows.items c.args.max_rows c.first_of.result c.needed_count.result c.enough_for_slice.result c.if-asked.false
    (rw (c.as_slice.ensures, c.as_slice-2.ensures) at c.in_ok-rows.ensures) c.needed_count.ensures (rw c.as_slice-3.ensures at c.enough_for_slice.ensures) c.first_of.ensures
