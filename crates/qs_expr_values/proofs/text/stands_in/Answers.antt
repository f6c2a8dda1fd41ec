use Rattle.std.proofs.Common.{◌∙◌}
use Rattle.qs_expr_values.proofs.Texts.{found_by}
use Rattle.qs_expr_values.proofs.text.stands_in.Goals as goal

pub returns : goal.returns
returns c = c.is_some.ensures ∙ found_by c.args.text.now c.args.needle.now c.find.result c.find.ensures
