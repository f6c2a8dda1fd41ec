use Rattle.std.proofs.Common.{sym, ◌∙◌, ap}
use Rattle.qs_expr.specs.inner.Against.{with_constant}
use Rattle.qs_expr.proofs.Said.{equal_to_plain, unlike_plain}
use Rattle.qs_expr.proofs.parts.constant_part.Goals as goal

pub has_part-requires : goal.has_part-requires
has_part-requires g c m =
    equal_to_plain m c.args.first c.args.variable c.args.term.now c.args.expr.now
    (c.requires ∙ ap (λ k. with_constant c.args.first k c.args.variable c.args.term.now) c.in-Equal.is) (sym c.is_literal.ensures ∙ c.if-is_literal.false)

pub has_part-requires-in-NotEqual : goal.has_part-requires-in-NotEqual
has_part-requires-in-NotEqual g c m =
    unlike_plain m c.args.first c.args.variable c.args.term.now c.args.expr.now
    (c.requires ∙ ap (λ k. with_constant c.args.first k c.args.variable c.args.term.now) c.in-NotEqual.is) (sym c.is_literal.ensures ∙ c.if-is_literal.false)
