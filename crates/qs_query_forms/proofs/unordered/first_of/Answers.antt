use Rattle.std.proofs.Common.{Ok, rules, ap, ◌∙◌}
use Rattle.qs_query_forms.specs.inner.InOrder.{bounded}
use Rattle.qs_query_forms.proofs.AnyOrder.{many_rows, few_rows}
use Rattle.qs_query_forms.proofs.unordered.first_of.Goals as goal

pub returns-then-len-max_rows : goal.returns-then-len-max_rows
returns-then-len-max_rows c = many_rows c.limit.new.rows.items c.args.max_rows (search rules) ∙ ap (bounded c.args.max_rows) c.limit.ensures

pub returns : goal.returns
returns c = ap Ok c.from_vec.ensures ∙ few_rows c.limit.new.rows.items c.args.max_rows (search rules) ∙ ap (bounded c.args.max_rows) c.limit.ensures
