use Rattle.qs_query_forms.proofs.Enough.{few_of_some}
use Rattle.std.proofs.Common.{rules}
use Rattle.qs_query_forms.proofs.answer.few_solutions.Goals as goal

pub returns : goal.returns
returns g c = few_of_some _ c.args.max_rows c.in_ok-all.all.items _ c.bounded.result (search rules) c.in_ok-all.ensures c.bounded.ensures
