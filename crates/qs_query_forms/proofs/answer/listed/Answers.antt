use Rattle.qs_query_forms.proofs.AnyOrder.{distinct_listed}
use Rattle.qs_query_forms.proofs.answer.listed.Goals as goal

pub returns : goal.returns
returns g c = distinct_listed c.args.asked.now c.args.most c.in_ok-rows.rows.items _ c.requires (rw c.as_slice-columns.ensures at c.in_ok-rows.ensures)
