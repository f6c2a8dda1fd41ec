use Rattle.std.proofs.Common.{sym, ◌∙◌}
use Rattle.std.proofs.lemmas.Option.{same_Some}
use Rattle.qs_expr_values.specs.inner.Value.{term_of}
use Rattle.qs_expr.proofs.constant.AgainstConstant.compare.Goals as goal

pub returns-in-Some : goal.returns-in-Some
returns-in-Some c m b p e =
    c.args.self.now.sound m (term_of c.args.value.now) c.in-Some.order p (sym c.in-Some.ensures) ∙ (sym c.satisfies.ensures ∙ same_Some c.satisfies.result b e)
