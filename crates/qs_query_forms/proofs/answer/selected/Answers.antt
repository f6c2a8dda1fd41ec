use Rattle.qs_query_forms.proofs.Ordered as ordered
use Rattle.qs_query_forms.proofs.answer.selected.Goals as goal

pub returns : goal.returns
returns g c = ordered.selected c.args.asked _ c.args.max_rows c.sequence-rows.result c.with_vars.result c.sequence-rows.ensures c.with_vars.ensures
