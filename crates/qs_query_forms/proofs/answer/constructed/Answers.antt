use Rattle.qs_query_forms.proofs.AnyOrder.{graph_from_rest}
use Rattle.qs_query_forms.proofs.answer.constructed.Goals as goal

pub returns : goal.returns
returns g c =
    graph_from_rest c.args.asked.now (g.V.View.content c.args.view.now).next c.args.max_rows c.in_ok-rows.rows.items _ c.graph_of_rows.result c.in_ok-rows.ensures (rw c.next_blank.ensures.next at c.graph_of_rows.ensures)
