use Rattle.std.proofs.Common.{◌∙◌}
use Rattle.qs_expr_values.proofs.Numbers.{parsed}
use Rattle.qs_expr_values.proofs.number.parsed.Goals as goal

pub returns : goal.returns
returns c = c.ok.ensures.value ∙ parsed c.parse.result c.args.form.now c.parse.ensures.value.0
