use Rattle.std.proofs.Common.{◌∙◌}
use Rattle.qs_query_forms.proofs.Ordered.{all_named}
use Rattle.qs_query_forms.proofs.answer.solutions.Goals as goal

pub returns : goal.returns
returns g c =
    all_named c.args.pattern.now _ c.args.max_rows c.in_ok-vars.vars c.few_solutions-rows.result c.with_vars.result (c.in_ok-vars.ensures ∙ c.as_slice.ensures) c.few_solutions-rows.ensures c.with_vars.ensures
