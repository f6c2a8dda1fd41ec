use Rattle.std.proofs.Common.{sym, ◌∙◌, ap}
use Rattle.qs_expr_values.specs.Values.{text, worth}
use Rattle.qs_expr.proofs.Said.{text_is_form}
use Rattle.qs_expr.proofs.constant.form_of.Goals as goal

pub returns-in-Literal : goal.returns-in-Literal
returns-in-Literal c s h = ap text c.form.ensures.form ∙ text_is_form c.in-Literal.lit s (ap worth (sym c.in-Literal.is) ∙ h)
