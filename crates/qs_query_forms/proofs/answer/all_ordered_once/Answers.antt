use Rattle.std.proofs.Common.{◌∙◌}
use Rattle.qs_base.specs.inner.Lent.{lent}
use Rattle.qs_query_forms.proofs.AnyOrder.{ordered_all}
use Rattle.qs_query_forms.proofs.answer.all_ordered_once.Goals as goal

pub returns : goal.returns
returns g c =
    ordered_all c.args.asked.now _ c.in_ok-all.all.items c.args.max_rows c.rows_of.result (lent c.in_ok-all-2.all.items) (c.in_ok-all-2.ensures ∙ c.as_slice-2.ensures.value)
    (rw c.as_slice.ensures at c.in_ok-all.ensures) c.rows_of.ensures
